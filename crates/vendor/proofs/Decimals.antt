-- Digits read from the left, and when they are plain. Assumes nothing.
use Rattle.std.proofs.Common.{◌≡◌, ℕ, ◌+◌, ◌-◌, ◌*◌, ◌<◌, ◌≤◌, true, false, not, ◌||◌, eqb, leb, List, length, get_or, take, take_all, drop, pos, Some, None, cond, sym, ap, ◌∙◌, ⊎_elim, arith, length-take-le, get_or-take}
use Rattle.std.specs.Str.Parse.{digits_value}
use Rattle.std.specs.Int.{IsInRange}
use Rattle.std.specs.Char.{is_ascii_digit, digit_value as digitValue}
use Rattle.std.specs.Str.{all_ascii_digits}
use Rattle.std.specs.Option.{option_map}
use Rattle.std.proofs.lemmas.Int.Digits.{digits_value_more}
use Rattle.std.proofs.lemmas.Str.Parse.{IsNumeralModel, numerals_by_value, tells_all_ascii_digits, tells_by_index, digits_value_short}
use Rattle.std.proofs.lemmas.Bool.{leb-true, eqb-true, eq-eqb, ne_eqb, le-leb, and_parts, and_from, or_left, or_right, or_cases, not_from_false, not-true, cases_eq, cases_Bool, both_ways, cond-true, cond-false}
use Rattle.std.proofs.lemmas.Bool.Decides.{nat_tests}
use Rattle.vendor.specs.Numbers.{plain, number, magnitude_of, below_zero}

-- each of the first n bytes is a digit
abbrev pub DigitsBelow : List ℕ → ℕ → Type 0
DigitsBelow ds n = (i : ℕ) → i < n → IsInRange 48 57 (get_or ds i 0)

by_place : IsNumeralModel (λ ds. DigitsBelow ds (length ds)) (digits_value 10)
by_place = numerals_by_value _ tells_by_index

pub by_test : IsNumeralModel (λ ds. all_ascii_digits ds ≡ true) (digits_value 10)
by_test = numerals_by_value _ tells_all_ascii_digits

pub digits_told : (ds : List ℕ) → DigitsBelow ds (length ds) → all_ascii_digits ds ≡ true
digits_told ds h = by_test.from ds (by_place.to ds h)

pub digits_each : (ds : List ℕ) → all_ascii_digits ds ≡ true → DigitsBelow ds (length ds)
digits_each ds h = by_place.from ds (by_test.to ds h)

-- seven digits write less than ten million, so one more still fits
pub short : (ds : List ℕ) (i : ℕ) → i ≤ 7 → i ≤ length ds → DigitsBelow ds i → digits_value 10 (take i ds) < 10000000
short ds i few within h =
    let long = length-take-le i ds within in
    digits_value_short by_place (take i ds) 7 (λ k lt. let lt' : k < i = omega arith in rw get_or-take (h k lt')) (omega arith)

digit_value : (b : ℕ) → IsInRange 48 57 b → digitValue b ≡ b - 48
digit_value b h = grind (arith, nat_tests)

pub one_more : (ds : List ℕ) (i : ℕ) → i < length ds → IsInRange 48 57 (get_or ds i 0) → digits_value 10 (take (i + 1) ds) ≡ digits_value 10 (take i ds) * 10 + (get_or ds i 0 - 48)
one_more ds i within h = digits_value_more 10 ds i within ∙ ap (λ n. digits_value 10 (take i ds) * 10 + n) (digit_value (get_or ds i 0) h)

-- what `plain` asks beside the digits
pub record Short (ds : List ℕ) : Type 0 where
  pub some : 1 ≤ length ds
  pub few : length ds ≤ 8
  pub spare : get_or ds 0 0 ≡ 48 → length ds ≤ 1

lone : (ds : List ℕ) → Short ds → (eqb (length ds) 1 || not (eqb (get_or ds 0 0) 48)) ≡ true
lone ds s =
    ⊎_elim (λ e. or_left (eqb (length ds) 1) _ (eq-eqb (length ds) 1 (omega (arith, s.some, s.spare e))))
    (λ ne. or_right (eqb (length ds) 1) _ (not_from_false _ (ne_eqb (get_or ds 0 0) 48 ne)))
    (cases_eq (get_or ds 0 0) 48)

pub is_plain : (ds : List ℕ) → Short ds → DigitsBelow ds (length ds) → plain ds ≡ true
is_plain ds s h =
    and_from (all_ascii_digits ds) _ (digits_told ds h)
    (and_from (leb 1 (length ds)) _ (le-leb 1 (length ds) s.some)
    (and_from (leb (length ds) 8) _ (le-leb (length ds) 8 s.few) (lone ds s)))

pub record Plain (ds : List ℕ) : Type 0 where
  pub short : Short ds
  pub each : DigitsBelow ds (length ds)

pub plain_parts : (ds : List ℕ) → plain ds ≡ true → Plain ds
plain_parts ds e =
    let p = and_parts (all_ascii_digits ds) _ e in
    let q = and_parts (leb 1 (length ds)) _ p.1 in
    let r = and_parts (leb (length ds) 8) _ q.1 in
    record {
      short = record {
        some = leb-true 1 (length ds) q.0;
        few = leb-true (length ds) 8 r.0;
        spare = λ z. ⊎_elim (λ one. omega (arith, eqb-true (length ds) 1 one))
            (λ other. absurd (both_ways (eqb (get_or ds 0 0) 48) (not-true _ other) (eq-eqb (get_or ds 0 0) 48 z))) (or_cases (eqb (length ds) 1) _ r.1);
      };
      each = digits_each ds p.0;
    }

told_digit : (b : ℕ) → IsInRange 48 57 b → is_ascii_digit b ≡ true
told_digit b h = and_from (leb 48 b) (leb b 57) (le-leb 48 b h.0) (le-leb b 57 h.1)

-- a byte that is no digit leaves no text of digits
pub no_digits_at : (ds : List ℕ) (i : ℕ) → i < length ds → false ≡ is_ascii_digit (get_or ds i 0) → all_ascii_digits ds ≡ false
no_digits_at ds i within h =
    ⊎_elim (λ e. absurd (both_ways (is_ascii_digit (get_or ds i 0)) (sym h) (told_digit (get_or ds i 0) (digits_each ds e i within)))) (λ e. e) (cases_Bool (all_ascii_digits ds))

pub is_digit : (b : ℕ) → is_ascii_digit b ≡ true → IsInRange 48 57 b
is_digit b e = let p = and_parts (leb 48 b) (leb b 57) e in (leb-true 48 b p.0, leb-true b 57 p.1)

-- eight digits write less than a hundred million
eight : (ds : List ℕ) → DigitsBelow ds (length ds) → length ds ≤ 8 → digits_value 10 ds < 100000000
eight ds each few = digits_value_short by_place ds 8 each few

-- what was read when every byte was a digit
module _ (ds : List ℕ) (i v : ℕ) (all : length ds ≤ i) (each : DigitsBelow ds i) (is : v ≡ digits_value 10 (take i ds)) where
  whole : v ≡ digits_value 10 ds
  whole = is ∙ ap (digits_value 10) (take_all i ds all)

  pub whole_read : Some v ≡ cond (all_ascii_digits ds) (Some (digits_value 10 ds)) None
  whole_read = ap Some whole ∙ sym (cond-true _ _ _ (digits_told ds (λ k lt. each k (omega arith))))

  pub whole_small : length ds ≤ 8 → v < 100000000
  whole_small few = omega (arith, whole, eight ds (λ k lt. each k (omega arith)) few)

pub plain_value : (ds : List ℕ) → Plain ds → digits_value 10 ds < 100000000
plain_value ds p = eight ds p.each p.short.few

-- a text with no minus in front, and one with it
pub number_unsigned : (text : List ℕ) → (get_or text 0 0 ≡ 45 → ⊥) → number text ≡ option_map pos (magnitude_of text)
unfolding number
number_unsigned text ne = cond-false (eqb (get_or text 0 0) 45) _ _ (ne_eqb (get_or text 0 0) 45 ne)

pub number_minus : (text : List ℕ) → get_or text 0 0 ≡ 45 → number text ≡ below_zero (magnitude_of (drop 1 text))
unfolding number
number_minus text e = cond-true (eqb (get_or text 0 0) 45) _ _ (eq-eqb (get_or text 0 0) 45 e)
