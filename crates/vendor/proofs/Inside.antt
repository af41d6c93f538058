-- A row without fault names cells that are there. Assumes nothing.
use Rattle.std.proofs.Common.{◌≡◌, ℕ, suc, ◌+◌, ◌-◌, ◌*◌, ◌<◌, ◌≤◌, Bool, true, false, leb, ltb, List, [], ◌∷◌, ◌++◌, length, ℤ, pos, negsuc, is_some, Some, None, Option, sym, refl, ◌∙◌, arith}
use Rattle.std.specs.Option.{option_map}
use Rattle.std.specs.List.{AllByRecursion}
use Rattle.std.proofs.lemmas.Nat.{mul-add-lt}
use Rattle.std.proofs.lemmas.Bool.{leb-true, ltb-true, eqb-true, and_parts}
use Rattle.vendor.specs.declared.faults.RowFault.TheVariants.{Field}
use Rattle.vendor.specs.declared.rows.Entry.{Entry}
use Rattle.vendor.specs.declared.rows.Entry.TheVariants as entry
use Rattle.vendor.specs.declared.rows.Shape.{Shape}
use Rattle.vendor.specs.declared.rows.Last.{Last}
use Rattle.vendor.specs.declared.rows.Group.{Group}
use Rattle.vendor.specs.declared.rows.Group.TheVariants.{Outputs, System, Lines, Ramps}
use Rattle.vendor.specs.Files.{place}
use Rattle.vendor.specs.Fills.{NamesACell}
use Rattle.vendor.specs.Rows.{Line, fields, number_in, first_no, cut_questions, number_questions, field_questions, columns, group, width, natural, one_of, any, entry_for, entry_of, place_of, follows, row_fault}
use Rattle.vendor.proofs.Questions.{order, numbers, in_fields}

-- all of some questions have the answer yes
pub all_yes : {F : Type 0} (qs rs : List (Bool × F)) → first_no (qs ++ rs) ≡ None → (first_no qs ≡ None) × (first_no rs ≡ None)
all_yes [] rs all = (refl, all)
all_yes ((true, e) ∷ qs) rs all = all_yes qs rs all
all_yes ((false, e) ∷ qs) rs all = absurd (cc)

pub each_yes : {F : Type 0} (qs : List (Bool × F)) → first_no qs ≡ None → AllByRecursion (λ q. q.0 ≡ true) qs
each_yes [] all = tt
each_yes ((true, e) ∷ qs) all = (refl, each_yes qs all)
each_yes ((false, e) ∷ qs) all = absurd (cc)

none_mapped : {F G : Type 0} (f : F → G) (o : Option F) → option_map f o ≡ None → o ≡ None
none_mapped f None e = refl
none_mapped f (Some x) e = absurd (cc)

-- a field that is one of n numbers from `from` on
pub one_of_n : (from n : ℕ) (z : ℤ) → one_of from n z ≡ true → (from ≤ natural z) × (natural z < from + n)
one_of_n from n (pos k) e = let p = and_parts (leb from k) (ltb k (from + n)) e in (leb-true from k p.0, ltb-true k (from + n) p.1)
one_of_n from n (negsuc k) e = absurd (cc)

cell_below : (items periods item period : ℕ) → item < items → 1 ≤ period → period ≤ periods → item * periods + (period - 1) < items * periods
cell_below items periods item period a b c = omega (arith, mul-add-lt item periods (period - 1) items a (omega arith))

-- the first two fields after the letter: an item, and a period
pub item_period : (sh : Shape) (n items : ℕ) (oks : List (ℤ → Bool)) (f g : List ℕ) (fs : List (List ℕ)) → first_no (field_questions n (one_of 0 items ∷ one_of 1 sh.periods ∷ oks) (f ∷ g ∷ fs)) ≡ None
    → (natural (number_in f) < items) × (1 ≤ natural (number_in g)) × (natural (number_in g) ≤ sh.periods)
item_period sh n items oks f g fs all =
    let each = each_yes (field_questions n (one_of 0 items ∷ one_of 1 sh.periods ∷ oks) (f ∷ g ∷ fs)) all in
    let i = one_of_n 0 items (number_in f) each.1.0 in
    let t = one_of_n 1 sh.periods (number_in g) each.1.1.1.0 in
    (omega arith, t.0, omega arith)

period_only : (sh : Shape) (n : ℕ) (oks : List (ℤ → Bool)) (g : List ℕ) (fs : List (List ℕ)) → first_no (field_questions n (one_of 1 sh.periods ∷ oks) (g ∷ fs)) ≡ None
    → (1 ≤ natural (number_in g)) × (natural (number_in g) ≤ sh.periods)
period_only sh n oks g fs all =
    let t = one_of_n 1 sh.periods (number_in g) (each_yes (field_questions n (one_of 1 sh.periods ∷ oks) (g ∷ fs)) all).1.0 in
    (t.0, omega arith)

-- what a row tells lies in the shape
abbrev pub LiesIn : Shape → Entry → Type 0
LiesIn sh (entry.Output row period mark output) = (row < sh.size) × (1 ≤ period) × (period ≤ sh.periods)
LiesIn sh (entry.System period price) = (1 ≤ period) × (period ≤ sh.periods)
LiesIn sh (entry.Line line period upper lower) = (line < sh.lines) × (1 ≤ period) × (period ≤ sh.periods)
LiesIn sh (entry.Ramp row period rise fall) = (row < sh.size) × (1 ≤ period) × (period ≤ sh.periods)

lies_for : (sh : Shape) (g : Option Group) (letter : List ℕ) (fs : List (List ℕ)) → is_some g ≡ true → suc (length fs) ≡ width g → first_no (field_questions 2 (columns sh g) fs) ≡ None → LiesIn sh (entry_for g (letter ∷ fs))
lies_for sh None letter fs k w all = absurd (cc)
lies_for sh (Some Outputs) letter [] k w all = absurd (omega arith)
lies_for sh (Some Outputs) letter (a ∷ []) k w all = absurd (omega arith)
lies_for sh (Some Outputs) letter (a ∷ b ∷ fs) k w all = item_period sh 2 sh.size (one_of 0 256 ∷ any ∷ []) a b fs all
lies_for sh (Some System) letter [] k w all = absurd (omega arith)
lies_for sh (Some System) letter (a ∷ fs) k w all = period_only sh 2 (any ∷ []) a fs all
lies_for sh (Some Lines) letter [] k w all = absurd (omega arith)
lies_for sh (Some Lines) letter (a ∷ []) k w all = absurd (omega arith)
lies_for sh (Some Lines) letter (a ∷ b ∷ fs) k w all = item_period sh 2 sh.lines (any ∷ any ∷ []) a b fs all
lies_for sh (Some Ramps) letter [] k w all = absurd (omega arith)
lies_for sh (Some Ramps) letter (a ∷ []) k w all = absurd (omega arith)
lies_for sh (Some Ramps) letter (a ∷ b ∷ fs) k w all = item_period sh 2 sh.size (any ∷ any ∷ []) a b fs all

-- a row without fault, by its parts
pub record Sound (sh : Shape) (last : Option Last) (l : Line) : Type 0 where
  pub ended : l.ended ≡ true
  pub letter : is_some (group (fields l)) ≡ true
  pub count : length (fields l) ≡ width (group (fields l))
  pub numbers : first_no (number_questions sh (fields l)) ≡ None
  pub after : follows last (place_of (entry_of (fields l))) ≡ true

pub sound : (sh : Shape) (last : Option Last) (l : Line) → row_fault sh last l ≡ None → Sound sh last l
unfolding row_fault
sound sh last l none =
    let p = all_yes (cut_questions l) (numbers sh last l ++ order sh last l) none in
    let q = all_yes (numbers sh last l) (order sh last l) p.1 in
    let cut = each_yes (cut_questions l) p.0 in
    record {
      ended = cut.0;
      letter = cut.1.0;
      count = eqb-true (length (fields l)) (width (group (fields l))) cut.1.1.0;
      numbers = none_mapped Field (first_no (number_questions sh (fields l))) (sym (in_fields (number_questions sh (fields l))) ∙ q.0);
      after = (each_yes (order sh last l) q.1).0;
    }

lies_at : (sh : Shape) (fs : List (List ℕ)) → is_some (group fs) ≡ true → length fs ≡ width (group fs) → first_no (number_questions sh fs) ≡ None → LiesIn sh (entry_of fs)
lies_at sh [] k w all = absurd (cc)
lies_at sh (letter ∷ fs) k w all = lies_for sh (group (letter ∷ fs)) letter fs k w all

pub lies_in : (sh : Shape) (last : Option Last) (l : Line) → row_fault sh last l ≡ None → LiesIn sh (entry_of (fields l))
lies_in sh last l none = let s = sound sh last l none in lies_at sh (fields l) s.letter s.count s.numbers

pub names_a_cell : (sh : Shape) (e : Entry) → LiesIn sh e → NamesACell sh e
names_a_cell sh (entry.Output row period mark output) h = (h.1, cell_below sh.size sh.periods row period h.0 h.1 h.2)
names_a_cell sh (entry.System period price) h = (h.0, h.1)
names_a_cell sh (entry.Line line period upper lower) h = (h.1, cell_below sh.lines sh.periods line period h.0 h.1 h.2)
names_a_cell sh (entry.Ramp row period rise fall) h = (h.1, cell_below sh.size sh.periods row period h.0 h.1 h.2)

-- no row has a fault beside the row before it
abbrev pub Faultless : Shape → Option Last → List Line → Type 0
Faultless sh last [] = Unit {0}
Faultless sh last (l ∷ ls) = (row_fault sh last l ≡ None) × Faultless sh (Some (place l)) ls
