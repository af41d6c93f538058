-- Two digits of an hour or a minute, as a hole of that width writes them and as they are defined. Assumes nothing.
use Rattle.std.proofs.Common.{◌≡◌, ℕ, ◌/◌, ◌%◌, ◌^◌, ◌-◌, ◌<◌, ◌≤◌, Bool, true, false, ltb, [], refl, arith}
use Rattle.std.specs.Fmt.{decimal, padded_integral, format_spec, char_count}
use Rattle.std.proofs.lemmas.Bool.{ltb-true, ltb-false}
use Rattle.std.proofs.lemmas.Fmt.{decimal_digit, decimal_step}
use Rattle.market.specs.Labels.{two_digits}

one_digit : (n : ℕ) → n < 10 → padded_integral (format_spec 32 0 4 2 (2 ^ 64 - 1)) false [] (decimal n) ≡ two_digits n
unfolding padded_integral char_count
one_digit n h =
    let high : n / 10 ≡ 0 = omega arith in
    let low : n % 10 ≡ n = omega arith in
    rw (high, low, decimal_digit n h, decimal_digit 0 (omega arith)) refl

two : (n : ℕ) → 10 ≤ n → n < 100 → padded_integral (format_spec 32 0 4 2 (2 ^ 64 - 1)) false [] (decimal n) ≡ two_digits n
unfolding padded_integral char_count
two n h k = rw (decimal_step n h (omega arith), decimal_digit (n / 10) (omega arith), decimal_digit (n % 10) (omega arith)) refl

more : (n : ℕ) → 100 ≤ n → n < 256 → padded_integral (format_spec 32 0 4 2 (2 ^ 64 - 1)) false [] (decimal n) ≡ two_digits n
unfolding padded_integral char_count
more n h k =
    rw (decimal_step n (omega arith) (omega arith), decimal_step (n / 10) (omega arith) (omega arith), decimal_digit (n / 10 / 10) (omega arith), decimal_digit (n % 10) (omega arith)) refl

by_size : (n : ℕ) (a b : Bool) → ltb n 10 ≡ a → ltb n 100 ≡ b → n < 256 → padded_integral (format_spec 32 0 4 2 (2 ^ 64 - 1)) false [] (decimal n) ≡ two_digits n
by_size n true b e f small = one_digit n (ltb-true n 10 e)
by_size n false true e f small = two n (ltb-false n 10 e) (ltb-true n 100 f)
by_size n false false e f small = more n (ltb-false n 100 f) small

pub hole_of_two : (n : ℕ) → n < 256 → padded_integral (format_spec 32 0 4 2 (2 ^ 64 - 1)) false [] (decimal n) ≡ two_digits n
hole_of_two n small = by_size n (ltb n 10) (ltb n 100) refl refl small
