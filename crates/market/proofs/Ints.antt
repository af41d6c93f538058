-- The ring laws of ℤ that `omega (arith, ints)` does not reach, and how products keep the order. Assumes nothing.
use Rattle.std.proofs.Common.{◌≡◌, ℕ, suc, ◌+◌, ◌*◌, ◌≤◌, w32, w64, to_z, of_z, ℤ, pos, negsuc, ◌+ℤ◌, ◌-ℤ◌, ◌*ℤ◌, neg_ℤ, ◌≤ℤ◌, sym, ap, ◌∙◌, mul-le-mul_left, arith}
use lib.IntN.{*ℤ_comm}
use borrow.Author.Differences.{up, down, sum_is_lem, neg_is, product_is, same_in, le_out}
use Rattle.std.proofs.lemmas.Nat.{mul-le}
use Rattle.std.proofs.lemmas.Int.{ints}
use Rattle.market.specs.Scans.{Within}

pub add_times : (a b c : ℤ) → (a +ℤ b) *ℤ c ≡ (a *ℤ c) +ℤ (b *ℤ c)
add_times a b c = omega (arith, ints, ap (λ n. n * up c) (sum_is_lem a b), ap (λ n. n * down c) (sum_is_lem a b))

pub sub_times : (a b c : ℤ) → (a -ℤ b) *ℤ c ≡ (a *ℤ c) -ℤ (b *ℤ c)
sub_times a b c = omega (arith, ints, ap (λ n. n * up c) (sum_is_lem a (neg_ℤ b)), ap (λ n. n * down c) (sum_is_lem a (neg_ℤ b)), ap (λ n. n * up c) (neg_is b).0, ap (λ n. n * down c) (neg_is b).0, ap (λ n. n * up c) (neg_is b).1, ap (λ n. n * down c) (neg_is b).1)

pub times_add : (a b c : ℤ) → a *ℤ (b +ℤ c) ≡ (a *ℤ b) +ℤ (a *ℤ c)
times_add a b c = *ℤ_comm a (b +ℤ c) ∙ add_times b c a ∙ λ i. *ℤ_comm b a i +ℤ *ℤ_comm c a i

pub times_sub : (a b c : ℤ) → a *ℤ (b -ℤ c) ≡ (a *ℤ b) -ℤ (a *ℤ c)
times_sub a b c = *ℤ_comm a (b -ℤ c) ∙ sub_times b c a ∙ λ i. *ℤ_comm b a i -ℤ *ℤ_comm c a i

-- the two parts of a product of three, multiplied out
triple : (a b c : ℕ) (d e f : ℕ) → (a * b + d * e) * c + (a * e + d * b) * f ≡ a * (b * c + e * f) + d * (b * f + e * c)
triple a b c d e f = omega arith

pub times_assoc : (a b c : ℤ) → (a *ℤ b) *ℤ c ≡ a *ℤ (b *ℤ c)
times_assoc a b c = same_in ((a *ℤ b) *ℤ c) (a *ℤ (b *ℤ c)) (omega (arith, ups, downs))
  where
    ups : up ((a *ℤ b) *ℤ c) ≡ up (a *ℤ (b *ℤ c))
    ups = (product_is (a *ℤ b) c).0 ∙ (λ i. (product_is a b).0 i * up c + (product_is a b).1 i * down c) ∙ triple (up a) (up b) (up c) (down a) (down b) (down c)
        ∙ sym ((product_is a (b *ℤ c)).0 ∙ λ i. up a * (product_is b c).0 i + down a * (product_is b c).1 i)

    downs : down ((a *ℤ b) *ℤ c) ≡ down (a *ℤ (b *ℤ c))
    downs = (product_is (a *ℤ b) c).1 ∙ (λ i. (product_is a b).0 i * down c + (product_is a b).1 i * up c) ∙ triple (up a) (up b) (down c) (down a) (down b) (up c)
        ∙ sym ((product_is a (b *ℤ c)).1 ∙ λ i. up a * (product_is b c).1 i + down a * (product_is b c).0 i)

pub times_left_comm : (a b c : ℤ) → a *ℤ (b *ℤ c) ≡ b *ℤ (a *ℤ c)
times_left_comm a b c = sym (times_assoc a b c) ∙ ap (λ x. x *ℤ c) (*ℤ_comm a b) ∙ times_assoc b a c

pub times_mono : (a b c : ℤ) → pos 0 ≤ℤ a → b ≤ℤ c → (a *ℤ b) ≤ℤ (a *ℤ c)
times_mono (pos n) b c h k = omega (arith, ints, mul-le-mul_left n (le_out b c k))
times_mono (negsuc n) b c h k = omega (arith, ints)

pub times_within : (a b : ℤ) (m n : ℕ) → Within m a → Within n b → Within (m * n) (a *ℤ b)
times_within (pos i) (pos j) m n h k = omega (arith, ints, mul-le i j m n (omega (arith, ints)) (omega (arith, ints)))
times_within (pos i) (negsuc j) m n h k = omega (arith, ints, mul-le i (suc j) m n (omega (arith, ints)) (omega (arith, ints)))
times_within (negsuc i) (pos j) m n h k = omega (arith, ints, mul-le (suc i) j m n (omega (arith, ints)) (omega (arith, ints)))
times_within (negsuc i) (negsuc j) m n h k = omega (arith, ints, mul-le (suc i) (suc j) m n (omega (arith, ints)) (omega (arith, ints)))

-- a number that is within its limit is read as it was written
pub reread : (limit : ℕ) (x : ℤ) → limit ≤ 2147483647 → Within limit x → to_z w32 (of_z w32 x) ≡ x
reread limit x few h = omega (arith, ints)

pub reread_long : (limit : ℕ) (x : ℤ) → limit ≤ 9223372036854775807 → Within limit x → to_z w64 (of_z w64 x) ≡ x
reread_long limit x few h = omega (arith, ints)
