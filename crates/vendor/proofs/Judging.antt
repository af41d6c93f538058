-- The first faulty row of a file, and what its tables hold where it has none. Assumes nothing.
use Rattle.std.proofs.Common.{◌≡◌, ℕ, zero, suc, ◌+◌, ◌-◌, ◌*◌, ◌<◌, ◌≤◌, Bool, true, false, cond, ◌&&◌, ◌||◌, eqb, ltb, ◌⊎◌, List, [], ◌∷◌, length, get_or, ℤ, pos, Some, None, Option, sym, refl, ap, ◌∙◌, subst, inl, inr, ⊎_elim, arith}
use Rattle.std.proofs.lemmas.Nat.{mul-add-lt}
use Rattle.std.proofs.lemmas.List.FromFn.{length-map-range_with_len, get_or-map-range_with_len}
use Rattle.std.proofs.lemmas.Bool.{cond-true, cond-false, eq-eqb, ne_eqb, eqb-true, ltb-true, and_parts, or_cases, cases_order}
use Rattle.std.proofs.lemmas.Bool.Decides.{nat_tests}
use Rattle.vendor.specs.declared.faults.RowFault.{RowFault}
use Rattle.vendor.specs.declared.faults.FileFault.{FileFault}
use Rattle.vendor.specs.declared.faults.FileFault.TheVariants.{Row}
use Rattle.vendor.specs.declared.rows.Shape.{Shape}
use Rattle.vendor.specs.declared.rows.Last.{Last}
use Rattle.vendor.specs.declared.rows.Group.{Group}
use Rattle.vendor.specs.declared.rows.Group.TheVariants.{Outputs, System, Lines, Ramps}
use Rattle.vendor.specs.declared.rows.Entry.{Entry}
use Rattle.vendor.specs.declared.rows.Entry.TheVariants as entry
use Rattle.vendor.specs.Files.{lines, place, row_or, fault_from, fault_of, entries, cell, told, numbers_of, first, second, first_natural, after, after_all, table, filled}
use Rattle.vendor.specs.Fills.{NamesACell}
use Rattle.vendor.specs.Format.{fault_at, AllSound, FirstFaulty, entry_at, Holds, TablesHold}
use Rattle.vendor.specs.Rows.{Line, fields, entry_of, place_of, follows, rank, row_fault}
use Rattle.vendor.proofs.Inside.{Faultless, LiesIn, lies_in, names_a_cell, sound}

-- the row that stands for none
abbrev empty : Line
empty = record { bytes = []; ended = false }

-- the same as `fault_at`, over any rows that come after `last`
abbrev place_in : Option Last → List Line → ℕ → Option Last
place_in last ls zero = last
place_in last ls (suc k) = Some (place (get_or ls k empty))

abbrev fault_in : Shape → Option Last → List Line → ℕ → Option RowFault
fault_in sh last ls k = row_fault sh (place_in last ls k) (get_or ls k empty)

module _ (sh : Shape) where
  in_tail : (last : Option Last) (l : Line) (ls : List Line) (k : ℕ) → fault_in sh last (l ∷ ls) (suc k) ≡ fault_in sh (Some (place l)) ls k
  in_tail last l ls zero = refl
  in_tail last l ls (suc k) = refl

  at_in : (file : List ℕ) (k : ℕ) → fault_at sh file k ≡ fault_in sh None (lines file) k
  at_in file zero = refl
  at_in file (suc k) = refl

  sound_in : (last : Option Last) (ls : List Line) → Faultless sh last ls → (k : ℕ) → k < length ls → fault_in sh last ls k ≡ None
  sound_in last [] h k within = absurd (omega arith)
  sound_in last (l ∷ ls) h zero within = h.0
  sound_in last (l ∷ ls) h (suc k) within = in_tail last l ls k ∙ sound_in (Some (place l)) ls h.1 k (omega arith)

  pub all_sound : (file : List ℕ) → Faultless sh None (lines file) → AllSound sh file
  all_sound file h k within = at_in file k ∙ sound_in None (lines file) h k within

  -- the first faulty row of some rows that are counted from n
  record FirstIn (n : ℕ) (last : Option Last) (ls : List Line) (g : FileFault) : Type 0 where
    k : ℕ
    f : RowFault
    told_so : g ≡ Row (n + k) f
    within : k < length ls
    before : (j : ℕ) → j < k → fault_in sh last ls j ≡ None
    fault : fault_in sh last ls k ≡ Some f

  later_in : (n : ℕ) (last : Option Last) (l : Line) (ls : List Line) (g : FileFault) → row_fault sh last l ≡ None → FirstIn (n + 1) (Some (place l)) ls g → FirstIn n last (l ∷ ls) g
  later_in n last l ls g none r = record {
    k = suc r.k;
    f = r.f;
    told_so = r.told_so ∙ ap (λ m. Row m r.f) (omega arith);
    within = omega (arith, r.within);
    before = λ j h. before_all j h;
    fault = in_tail last l ls r.k ∙ r.fault;
  }
    where
      before_all : (j : ℕ) → j < suc r.k → fault_in sh last (l ∷ ls) j ≡ None
      before_all zero h = none
      before_all (suc j) h = in_tail last l ls j ∙ r.before j (omega arith)

  first_in : (n : ℕ) (last : Option Last) (ls : List Line) (g : FileFault) → fault_from sh n last ls ≡ Some g → FirstIn n last ls g
  first_in n last [] g e = absurd (cc)
  first_in n last (l ∷ ls) g e = by (row_fault sh last l) refl e (first_in (n + 1) (Some (place l)) ls g)
    where
      by : (o : Option RowFault) → row_fault sh last l ≡ o → row_or o n (fault_from sh (n + 1) (Some (place l)) ls) ≡ Some g → (fault_from sh (n + 1) (Some (place l)) ls ≡ Some g → FirstIn (n + 1) (Some (place l)) ls g) → FirstIn n last (l ∷ ls) g
      by None is e later = later_in n last l ls g is (later e)
      by (Some f) is e later = record {
        k = 0;
        f = f;
        told_so = let g_is : g ≡ Row n f = cc in g_is ∙ ap (λ m. Row m f) (omega arith);
        within = omega arith;
        before = λ j h. absurd (omega arith);
        fault = is;
      }

  -- the fault of a file is that of its first faulty row, counted from 1
  pub first_faulty : (file : List ℕ) (g : FileFault) → fault_of sh file ≡ Some g → (k : ℕ) × (f : RowFault) × (g ≡ Row (k + 1) f) × FirstFaulty sh file k f
  first_faulty file g e =
      let r = first_in 1 None (lines file) g e in (
        r.k,
        r.f,
        r.told_so ∙ ap (λ m. Row m r.f) (omega arith),
        record {
          within = r.within;
          before = λ j h. at_in file j ∙ r.before j h;
          fault = at_in file r.k ∙ r.fault;
        },
      )

-- the order of rows, over its six numbers
abbrev later : ℕ → ℕ → ℕ → ℕ → ℕ → ℕ → Bool
later g i t h j u = ltb g h || (eqb g h && (ltb i j || (eqb i j && ltb t u)))

later_on : (g i t h j u k l v : ℕ) → later g i t h j u ≡ true → later h j u k l v ≡ true → later g i t k l v ≡ true
later_on g i t h j u k l v a b = grind (arith, nat_tests)

rising : (g i t h j u : ℕ) → later g i t h j u ≡ true → g ≡ h → (i < j) ⊎ ((i ≡ j) × (t < u))
rising g i t h j u a same =
    ⊎_elim (λ lt. absurd (omega (arith, ltb-true g h lt)))
    (λ on. ⊎_elim (λ lt. inl (ltb-true i j lt)) (λ eq. let p = and_parts (eqb i j) (ltb t u) eq in inr (eqb-true i j p.0, ltb-true t u p.1)) (or_cases (ltb i j) _ (and_parts (eqb g h) _ on).1))
    (or_cases (ltb g h) _ a)

-- rows of one letter that name one cell do not come one after the other
apart : (w g i t h j u : ℕ) → later g i t h j u ≡ true → g ≡ h → 1 ≤ t → t ≤ w → 1 ≤ u → u ≤ w → i * w + (t - 1) ≡ j * w + (u - 1) → ⊥
apart w g i t h j u a same t1 tw u1 uw cells =
    ⊎_elim (λ lt. omega (arith, mul-add-lt i w (t - 1) j lt (omega arith)))
    (λ eq. let prod : i * w ≡ j * w = ap (λ n. n * w) eq.0 in omega (arith, eq.1))
    (rising g i t h j u a same)

module _ (sh : Shape) where
  follows_on : (p : Option Last) (q r : Last) → follows p q ≡ true → follows (Some q) r ≡ true → follows p r ≡ true
  follows_on None q r a b = refl
  follows_on (Some p) q r a b = later_on (rank p.group) p.index p.period (rank q.group) q.index q.period (rank r.group) r.index r.period a b

  -- every row comes after what stood before the first
  after_last : (last : Option Last) (ls : List Line) → Faultless sh last ls → (k : ℕ) → k < length ls → follows last (place (get_or ls k empty)) ≡ true
  after_last last [] h k within = absurd (omega arith)
  after_last last (l ∷ ls) h zero within = (sound sh last l h.0).after
  after_last last (l ∷ ls) h (suc k) within =
      follows_on last (place l) (place (get_or ls k empty)) (sound sh last l h.0).after (after_last (Some (place l)) ls h.1 k (omega arith))

  in_order : (last : Option Last) (ls : List Line) → Faultless sh last ls → (j k : ℕ) → j < k → k < length ls → follows (Some (place (get_or ls j empty))) (place (get_or ls k empty)) ≡ true
  in_order last [] h j k lt within = absurd (omega arith)
  in_order last (l ∷ ls) h j zero lt within = absurd (omega arith)
  in_order last (l ∷ ls) h zero (suc k) lt within = after_last (Some (place l)) ls h.1 k (omega arith)
  in_order last (l ∷ ls) h (suc j) (suc k) lt within = in_order (Some (place l)) ls h.1 j k (omega arith) (omega arith)

  lies_each : (last : Option Last) (ls : List Line) → Faultless sh last ls → (k : ℕ) → k < length ls → LiesIn sh (entry_of (fields (get_or ls k empty)))
  lies_each last [] h k within = absurd (omega arith)
  lies_each last (l ∷ ls) h zero within = lies_in sh last l h.0
  lies_each last (l ∷ ls) h (suc k) within = lies_each (Some (place l)) ls h.1 k (omega arith)

  period_lies : (e : Entry) → LiesIn sh e → (1 ≤ (place_of e).period) × ((place_of e).period ≤ sh.periods)
  period_lies (entry.Output r t m o) h = (h.1, h.2)
  period_lies (entry.System t p) h = (h.0, h.1)
  period_lies (entry.Line l t u w) h = (h.1, h.2)
  period_lies (entry.Ramp r t x y) h = (h.1, h.2)

-- what it means that a row tells v of cell i
record Tells {A : Type 0} (sh : Shape) (g : Group) (pick : ℤ × ℤ → A) (e : Entry) (i : ℕ) (v : A) : Type 0 where
  letter : rank g ≡ rank (place_of e).group
  where_it_is : i ≡ cell sh (place_of e).index (place_of e).period

module _ {A : Type 0} (sh : Shape) (g : Group) (pick : ℤ × ℤ → A) where
  tells_so : (e : Entry) (i : ℕ) (v : A) → told sh g pick e ≡ Some (i, v) → Tells sh g pick e i v
  tells_so e i v is = by (eqb (rank g) (rank (place_of e).group)) refl is
    where
      by : (b : Bool) → eqb (rank g) (rank (place_of e).group) ≡ b → cond {A = Option (ℕ × A)} b (Some (cell sh (place_of e).index (place_of e).period, pick (numbers_of e))) None ≡ Some (i, v) → Tells sh g pick e i v
      by true same is =
          let p : ◌≡◌ {A = ℕ × A} (cell sh (place_of e).index (place_of e).period, pick (numbers_of e)) (i, v) = cc in
          record { letter = eqb-true _ _ same; where_it_is = sym (ap (λ (q : ℕ × A). q.0) p) }
      by false same is = absurd (cc)

  -- of two rows in the order of the file, not both name one cell
  not_both : (e d : Entry) (i : ℕ) (v w : A) → follows (Some (place_of e)) (place_of d) ≡ true → LiesIn sh e → LiesIn sh d → told sh g pick e ≡ Some (i, v) → told sh g pick d ≡ Some (i, w) → ⊥
  not_both e d i v w order le ld te td =
      let a = tells_so e i v te in
      let b = tells_so d i w td in
      let pe = period_lies sh e le in
      let pd = period_lies sh d ld in
      apart sh.periods (rank (place_of e).group) (place_of e).index (place_of e).period (rank (place_of d).group) (place_of d).index (place_of d).period
      order (sym a.letter ∙ b.letter) pe.0 pe.1 pd.0 pd.1 (sym a.where_it_is ∙ b.where_it_is)

  -- a cell that no row names stays as it was
  left_alone : (o : Option (ℕ × A)) (i : ℕ) (x : A) → ((v : A) → o ≡ Some (i, v) → ⊥) → after o i x ≡ x
  left_alone None i x none = refl
  left_alone (Some p) i x none = cond-false (eqb p.0 i) _ _ (ne_eqb p.0 i (λ e. none p.1 (ap (λ k. Some (k, p.1)) e)))

  unnamed_stays : (ls : List Line) (i : ℕ) (x : A) → ((k : ℕ) (v : A) → k < length ls → told sh g pick (entry_of (fields (get_or ls k empty))) ≡ Some (i, v) → ⊥) → after_all (told sh g pick) i x (entries ls) ≡ x
  unnamed_stays [] i x none = refl
  unnamed_stays (l ∷ ls) i x none =
      unnamed_stays ls i _ (λ k v h. none (suc k) v (omega arith)) ∙ left_alone (told sh g pick (entry_of (fields l))) i x (λ v. none 0 v (omega arith))

  set_so : (o : Option (ℕ × A)) (i : ℕ) (v x : A) → o ≡ Some (i, v) → after o i x ≡ v
  set_so o i v x is = ap (λ p. after p i x) is ∙ cond-true (eqb i i) _ _ (eq-eqb i i refl)

  -- a cell that one row names, and no row after it, holds what that row tells
  named_holds : (last : Option Last) (ls : List Line) → Faultless sh last ls → (k i : ℕ) (v x : A) → k < length ls → told sh g pick (entry_of (fields (get_or ls k empty))) ≡ Some (i, v) → after_all (told sh g pick) i x (entries ls) ≡ v
  named_holds last [] h k i v x within tells-it = absurd (omega arith)
  named_holds last (l ∷ ls) h (suc k) i v x within tells-it = named_holds (Some (place l)) ls h.1 k i v _ (omega arith) tells-it
  named_holds last (l ∷ ls) h zero i v x within tells-it =
      unnamed_stays ls i _ (λ k w lt tells_too. not_both (entry_of (fields l)) (entry_of (fields (get_or ls k empty))) i v w
      (after_last sh (Some (place l)) ls h.1 k lt) (lies_in sh last l h.0) (lies_each sh (Some (place l)) ls h.1 k lt) tells-it tells_too)
      ∙ set_so (told sh g pick (entry_of (fields l))) i v x tells-it

  -- rows that name one cell are one row
  same_row : (last : Option Last) (ls : List Line) → Faultless sh last ls → (j k i : ℕ) (v w : A) → j < length ls → k < length ls
      → told sh g pick (entry_of (fields (get_or ls j empty))) ≡ Some (i, v) → told sh g pick (entry_of (fields (get_or ls k empty))) ≡ Some (i, w) → j ≡ k
  same_row last ls h j k i v w jn kn tj tk =
      ⊎_elim (λ e. e)
      (⊎_elim (λ lt. absurd (not_both _ _ i v w (in_order sh last ls h j k lt kn) (lies_each sh last ls h j jn) (lies_each sh last ls h k kn) tj tk))
      (λ gt. absurd (not_both _ _ i w v (in_order sh last ls h k j gt jn) (lies_each sh last ls h k kn) (lies_each sh last ls h j jn) tk tj)))
      (cases_order j k)

-- how many cells the tables of a letter have
abbrev cells_of : Shape → Group → ℕ
cells_of sh Outputs = sh.size * sh.periods
cells_of sh System = sh.periods
cells_of sh Lines = sh.lines * sh.periods
cells_of sh Ramps = sh.size * sh.periods

in_table : (sh : Shape) (e : Entry) → NamesACell sh e → cell sh (place_of e).index (place_of e).period < cells_of sh (place_of e).group
in_table sh (entry.Output r t m o) h = h.1
in_table sh (entry.System t p) h = omega (arith, h.0, h.1)
in_table sh (entry.Line l t u w) h = h.1
in_table sh (entry.Ramp r t x y) h = h.1

-- a letter by its place among the letters
ranked : ℕ → Group
ranked zero = Outputs
ranked (suc zero) = System
ranked (suc (suc zero)) = Lines
ranked (suc (suc (suc n))) = Ramps

rank_back : (g : Group) → ranked (rank g) ≡ g
unfolding ranked
rank_back Outputs = refl
rank_back System = refl
rank_back Lines = refl
rank_back Ramps = refl

same_rank : (g h : Group) → rank g ≡ rank h → g ≡ h
same_rank g h e = sym (rank_back g) ∙ ap ranked e ∙ rank_back h

module _ {A : Type 0} (sh : Shape) (g : Group) (pick : ℤ × ℤ → A) (zero : A) (file : List ℕ) (h : Faultless sh None (lines file)) where
  holds : Holds (told sh g pick) (cells_of sh g) zero file (table (told sh g pick) (cells_of sh g) zero (entries (lines file)))
  holds = record {
    long = length-map-range_with_len _ 0 (cells_of sh g);
    named = λ k i v within is.
        let e : Entry = entry_at file k in
        let lies = lies_each sh None (lines file) h k within in
        let t = tells_so sh g pick e i v is in
        let inside : i < cells_of sh g = subst (λ c. i < cells_of sh c) (sym (same_rank g (place_of e).group t.letter)) (subst (λ c. c < cells_of sh (place_of e).group) (sym t.where_it_is) (in_table sh e (names_a_cell sh e lies))) in
        (inside, get_or-map-range_with_len _ 0 (cells_of sh g) i i zero inside (omega arith) ∙ named_holds sh g pick None (lines file) h k i v zero within is);
    once = λ j k i v w jn kn tj tk. same_row sh g pick None (lines file) h j k i v w jn kn tj tk;
    unnamed = λ i inside none. get_or-map-range_with_len _ 0 (cells_of sh g) i i zero inside (omega arith) ∙ unnamed_stays sh g pick (lines file) i zero none;
  }

pub tables_hold : (sh : Shape) (file : List ℕ) → Faultless sh None (lines file) → TablesHold sh file (filled sh (entries (lines file)))
tables_hold sh file h = record {
  marks = holds sh Outputs first_natural 0 file h;
  outputs = holds sh Outputs second (pos 0) file h;
  system = holds sh System first (pos 0) file h;
  upper = holds sh Lines first (pos 0) file h;
  lower = holds sh Lines second (pos 0) file h;
  rise = holds sh Ramps first (pos 0) file h;
  fall = holds sh Ramps second (pos 0) file h;
}
