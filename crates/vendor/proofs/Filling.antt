-- The tables while they are written, row after row. Assumes nothing.
use Rattle.std.proofs.Common.{◌≡◌, ℕ, ◌+◌, ◌*◌, ◌<◌, ◌≤◌, true, eqb, List, [], ◌∷◌, length, get_or, set, replicate, pos, Some, None, Option, sym, refl, ap, ◌∙◌, subst, ⊎_elim, arith}
use Rattle.std.proofs.lemmas.List.FromFn.{fill_by_all}
use Rattle.std.proofs.lemmas.List.{get_or-set_same, get_or-set_other, get_or-replicate, length-set, length-replicate}
use Rattle.std.proofs.lemmas.Bool.{cond-true, cond-false, eq-eqb, ne_eqb, cases_eq, and_parts, eqb-true, leb-true}
use Rattle.vendor.specs.declared.faults.RowFault.{RowFault}
use Rattle.vendor.specs.declared.faults.FileFault.{FileFault}
use Rattle.vendor.specs.declared.rows.Shape.{Shape}
use Rattle.vendor.specs.declared.rows.Group.TheVariants.{Outputs, System, Lines, Ramps}
use Rattle.vendor.specs.declared.rows.Last.{Last}
use Rattle.vendor.specs.declared.rows.Entry.{Entry}
use Rattle.vendor.specs.Files.{lines, fault_of, place, row_or, fault_from, entries, after, after_all, table, Contents, RightLengths, sized, filled, told, first, second, first_natural}
use Rattle.vendor.specs.declared.tables.Tables.{Tables}
use Rattle.vendor.specs.Fills.{cleared, put, written, NamesACell, SamePlaces}
use Rattle.vendor.specs.Rows.{Line, fields, entry_of, place_of, row_fault}
use Rattle.vendor.specs.Walks.{tail}
use Rattle.vendor.proofs.Inside.{Faultless, names_a_cell, lies_in}
use Rattle.vendor.proofs.Passes.{ReadOn}

-- a table on its way: its cells, with the rows ahead written over them, come out as all rows tell
pub record Towards {A : Type 0} (told : Entry → Option (ℕ × A)) (n : ℕ) (zero : A) (all : List Entry) (xs : List A) (ahead : List Entry) : Type 0 where
  pub long : length xs ≡ n
  pub cells : (i : ℕ) → i < n → after_all told i (get_or xs i zero) ahead ≡ after_all told i zero all

module _ {A : Type 0} (told : Entry → Option (ℕ × A)) (n : ℕ) (zero : A) where
  towards_none : (m : ℕ) → m ≡ n → (all : List Entry) → Towards told n zero all (replicate m zero) all
  towards_none m is all = record {
    long = length-replicate m zero ∙ is;
    cells = λ i h. ap (λ x. after_all told i x all) (get_or-replicate m i zero zero (omega arith));
  }

  put_long : (o : Option (ℕ × A)) (xs : List A) → length (put o xs) ≡ length xs
  put_long None xs = refl
  put_long (Some p) xs = length-set xs p.0 p.1

  put_cell : (o : Option (ℕ × A)) (xs : List A) (i : ℕ) → i < length xs → get_or (put o xs) i zero ≡ after o i (get_or xs i zero)
  put_cell None xs i h = refl
  put_cell (Some p) xs i h =
      ⊎_elim
      (λ e. ap (λ k. get_or (set xs k p.1) i zero) e ∙ get_or-set_same xs i p.1 zero h ∙ sym (cond-true (eqb p.0 i) _ _ (eq-eqb p.0 i e)))
      (λ ne. get_or-set_other xs p.0 i p.1 zero (λ e. ne (sym e)) ∙ sym (cond-false (eqb p.0 i) _ _ (ne_eqb p.0 i ne)))
      (cases_eq p.0 i)

  towards_more : (all : List Entry) (xs : List A) (e : Entry) (ahead : List Entry) → Towards told n zero all xs (e ∷ ahead) → Towards told n zero all (put (told e) xs) ahead
  towards_more all xs e ahead t = record {
    long = put_long (told e) xs ∙ t.long;
    cells = λ i h. ap (λ x. after_all told i x ahead) (put_cell (told e) xs i (omega (arith, t.long))) ∙ t.cells i h;
  }

  towards_all : (all : List Entry) (xs : List A) → Towards told n zero all xs [] → xs ≡ table told n zero all
  towards_all all xs t = fill_by_all (λ i. after_all told i zero all) xs n zero t.long t.cells

-- the seven tables on their way
pub record Filling (sh : Shape) (all : List Entry) (c : Contents) (ahead : List Entry) : Type 0 where
  pub size : sh.size ≤ 32
  pub marks : Towards (told sh Outputs first_natural) (sh.size * sh.periods) 0 all c.marks ahead
  pub outputs : Towards (told sh Outputs second) (sh.size * sh.periods) (pos 0) all c.outputs ahead
  pub system : Towards (told sh System first) sh.periods (pos 0) all c.system ahead
  pub upper : Towards (told sh Lines first) (sh.lines * sh.periods) (pos 0) all c.upper ahead
  pub lower : Towards (told sh Lines second) (sh.lines * sh.periods) (pos 0) all c.lower ahead
  pub rise : Towards (told sh Ramps first) (sh.size * sh.periods) (pos 0) all c.rise ahead
  pub fall : Towards (told sh Ramps second) (sh.size * sh.periods) (pos 0) all c.fall ahead

module _ (sh : Shape) (all : List Entry) where
  pub filling_none : (c : Contents) → RightLengths sh c → Filling sh all (cleared c) all
  filling_none c s = record {
    size = s.size;
    marks = towards_none (told sh Outputs first_natural) _ 0 _ s.marks all;
    outputs = towards_none (told sh Outputs second) _ (pos 0) _ s.outputs all;
    system = towards_none (told sh System first) _ (pos 0) _ s.system all;
    upper = towards_none (told sh Lines first) _ (pos 0) _ s.upper all;
    lower = towards_none (told sh Lines second) _ (pos 0) _ s.lower all;
    rise = towards_none (told sh Ramps first) _ (pos 0) _ s.rise all;
    fall = towards_none (told sh Ramps second) _ (pos 0) _ s.fall all;
  }

  pub filling_more : (c : Contents) (e : Entry) (ahead : List Entry) → Filling sh all c (e ∷ ahead) → Filling sh all (written sh e c) ahead
  filling_more c e ahead f = record {
    size = f.size;
    marks = towards_more (told sh Outputs first_natural) _ 0 all _ e ahead f.marks;
    outputs = towards_more (told sh Outputs second) _ (pos 0) all _ e ahead f.outputs;
    system = towards_more (told sh System first) _ (pos 0) all _ e ahead f.system;
    upper = towards_more (told sh Lines first) _ (pos 0) all _ e ahead f.upper;
    lower = towards_more (told sh Lines second) _ (pos 0) all _ e ahead f.lower;
    rise = towards_more (told sh Ramps first) _ (pos 0) all _ e ahead f.rise;
    fall = towards_more (told sh Ramps second) _ (pos 0) all _ e ahead f.fall;
  }

  pub filling_all : (c : Contents) → Filling sh all c [] → c ≡ filled sh all
  filling_all c f = λ j. record {
    marks = towards_all (told sh Outputs first_natural) _ 0 all _ f.marks j;
    outputs = towards_all (told sh Outputs second) _ (pos 0) all _ f.outputs j;
    system = towards_all (told sh System first) _ (pos 0) all _ f.system j;
    upper = towards_all (told sh Lines first) _ (pos 0) all _ f.upper j;
    lower = towards_all (told sh Lines second) _ (pos 0) all _ f.lower j;
    rise = towards_all (told sh Ramps first) _ (pos 0) all _ f.rise j;
    fall = towards_all (told sh Ramps second) _ (pos 0) all _ f.fall j;
  }

  pub filling_sized : (c : Contents) (ahead : List Entry) → Filling sh all c ahead → RightLengths sh c
  filling_sized c ahead f = record {
    size = f.size;
    marks = f.marks.long;
    outputs = f.outputs.long;
    system = f.system.long;
    upper = f.upper.long;
    lower = f.lower.long;
    rise = f.rise.long;
    fall = f.fall.long;
  }

no_row : (o : Option RowFault) (n : ℕ) (later : Option FileFault) → row_or o n later ≡ None → (o ≡ None) × (later ≡ None)
no_row None n later e = (refl, e)
no_row (Some f) n later e = absurd (cc)

pub faultless : (sh : Shape) (n : ℕ) (last : Option Last) (ls : List Line) → fault_from sh n last ls ≡ None → Faultless sh last ls
faultless sh n last [] e = tt
faultless sh n last (l ∷ ls) e = let r = no_row (row_fault sh last l) n _ e in (r.0, faultless sh (n + 1) (Some (place l)) ls r.1)

pub sized_parts : (sh : Shape) (c : Contents) → sized sh c ≡ true → RightLengths sh c
sized_parts sh c e =
    let a = and_parts _ _ e in
    let b = and_parts _ _ a.1 in
    let d = and_parts _ _ b.1 in
    let f = and_parts _ _ d.1 in
    let g = and_parts _ _ f.1 in
    let h = and_parts _ _ g.1 in
    let k = and_parts _ _ h.1 in
    record {
      size = leb-true _ _ a.0;
      marks = eqb-true _ _ b.0;
      outputs = eqb-true _ _ d.0;
      system = eqb-true _ _ f.0;
      upper = eqb-true _ _ g.0;
      lower = eqb-true _ _ h.0;
      rise = eqb-true _ _ k.0;
      fall = eqb-true _ _ k.1;
    }

module _ (sh : Shape) (last : Option Last) (ls : List Line) (e : Entry) (r : ReadOn sh last ls e) where
  -- the row that is read is the first ahead
  pub entries_on : entries ls ≡ e ∷ entries (tail ls)
  entries_on = ap entries r.is ∙ ap (λ x. x ∷ entries (tail ls)) (sym r.told)

  pub faultless_on : Faultless sh last ls → Faultless sh (Some (place_of e)) (tail ls)
  faultless_on h = subst (λ x. Faultless sh (Some (place_of x)) (tail ls)) (sym r.told) (subst (Faultless sh last) r.is h).1

  pub names_on : NamesACell sh e
  names_on = subst (NamesACell sh) (sym r.told) (names_a_cell sh (entry_of (fields r.row)) (lies_in sh last r.row r.sound))

pub same_places_on : (a b c : Tables) → SamePlaces a b → SamePlaces b c → SamePlaces a c
same_places_on a b c h k = record {
  marks = k.marks ∙ h.marks;
  outputs = k.outputs ∙ h.outputs;
  system = k.system ∙ h.system;
  upper = k.upper ∙ h.upper;
  lower = k.lower ∙ h.lower;
  rise = k.rise ∙ h.rise;
  fall = k.fall ∙ h.fall;
}

pub same_places_none : (a : Tables) → SamePlaces a a
same_places_none a = record { marks = refl; outputs = refl; system = refl; upper = refl; lower = refl; rise = refl; fall = refl }

-- the second pass: no row ahead has a fault, and the tables are on their way
pub record Writing (sh : Shape) (file : List ℕ) (last : Option Last) (ahead : List Line) (c : Contents) : Type 0 where
  pub sound : Faultless sh last ahead
  pub tables : Filling sh (entries (lines file)) c (entries ahead)

module _ (sh : Shape) (file : List ℕ) where
  pub writing_none : (last : Option Last) (ahead : List Line) (c d : Contents) → fault_of sh file ≡ None → RightLengths sh c → last ≡ None → ahead ≡ lines file → d ≡ cleared c → Writing sh file last ahead d
  writing_none last ahead c d none s first all clear =
      subst (λ l. Writing sh file l ahead d) (sym first) (subst (λ ls. Writing sh file None ls d) (sym all) (subst (Writing sh file None (lines file)) (sym clear)
      (record { sound = faultless sh 1 None (lines file) none; tables = filling_none sh (entries (lines file)) c s })))

  pub writing_more : (last last' : Option Last) (ahead ahead' : List Line) (c d : Contents) (e : Entry) → Writing sh file last ahead c → ReadOn sh last ahead e
      → last' ≡ Some (place_of e) → ahead' ≡ tail ahead → d ≡ written sh e c → Writing sh file last' ahead' d
  writing_more last last' ahead ahead' c d e w r moved on put =
      subst (λ l. Writing sh file l ahead' d) (sym moved) (subst (λ ls. Writing sh file (Some (place_of e)) ls d) (sym on) (subst (Writing sh file (Some (place_of e)) (tail ahead)) (sym put)
      (record {
        sound = faultless_on sh last ahead e r w.sound;
        tables = filling_more sh (entries (lines file)) c e (entries (tail ahead)) (subst (Filling sh (entries (lines file)) c) (entries_on sh last ahead e r) w.tables);
      })))

  pub writing_all : (last : Option Last) (ahead : List Line) (c : Contents) → Writing sh file last ahead c → ahead ≡ [] → c ≡ filled sh (entries (lines file))
  writing_all last ahead c w out = filling_all sh (entries (lines file)) c (subst (λ ls. Filling sh (entries (lines file)) c (entries ls)) out w.tables)
