-- What a thermal unit's periods weigh, as the code adds it up. Assumes nothing.
use Rattle.std.proofs.Common.{◌≡◌, ℕ, cond, ℤ, pos, ◌+ℤ◌, ◌-ℤ◌, ◌*ℤ◌, ◌∙◌, arith}
use Rattle.std.proofs.lemmas.Int.{ints}
use Rattle.market.specs.Fleet.{RowPrices}
use Rattle.market.specs.Scans.{Within, UpTo, at}
use Rattle.market.proofs.Ints.{times_assoc}
use Rattle.kinds.specs.declared.thermal_unit.ThermalUnit.{ThermalUnit}
use Rattle.kinds.specs.Thermal.{yuan, running, starts, rise_allowance, fall_allowance, running_weight, weight_in}
use Rattle.kinds.proofs.Units.{thousand, price_small}

-- a price on an allowance: the thousand of the fen stands in front
pub priced_is : (n a r l : ℤ) → n ≡ pos 1000 *ℤ r → a ≡ l → n *ℤ a ≡ pos 1000 *ℤ (r *ℤ l)
priced_is n a r l e f = (λ j. e j *ℤ f j) ∙ times_assoc (pos 1000) r l

pub priced_within : (r l : ℤ) → UpTo 1000000 r → Within 20000 l → Within 20000000000000 (pos 1000 *ℤ (r *ℤ l))
priced_within r l h k = thousand 20000000000 (r *ℤ l) (price_small r l h k)

-- two of them together
pub both_is : (s m n x y : ℤ) → s ≡ m +ℤ n → m ≡ pos 1000 *ℤ x → n ≡ pos 1000 *ℤ y → s ≡ pos 1000 *ℤ (x +ℤ y)
both_is s m n x y e f g = omega (arith, ints)

pub both_within : (s m n x y : ℤ) → s ≡ m +ℤ n → m ≡ x → n ≡ y → Within 20000000000000 x → Within 20000000000000 y → Within 40000000000000 s
both_within s m n x y e f g h k = (omega (arith, ints), omega (arith, ints))

-- the rise and fall prices into the period and out of it
pub value_joined : (v n m w d a b x x' y y' : ℤ) → v ≡ m -ℤ w → m ≡ n → w ≡ pos 1000 *ℤ d → d ≡ a -ℤ b → a ≡ x -ℤ x' → b ≡ y -ℤ y' → v ≡ n -ℤ pos 1000 *ℤ (x -ℤ x' -ℤ y +ℤ y')
value_joined v n m w d a b x x' y y' e f g h i k = omega (arith, ints)

-- a period's weight, from its parts
pub weight_joined : (u : ThermalUnit) (q : RowPrices) (t b m : ℕ) (r w x y : ℤ)
    → r ≡ cond (running m) w (pos 0) +ℤ cond (starts b m) (yuan u.start_cost) (pos 0) -ℤ pos 1000 *ℤ (x *ℤ rise_allowance u b m +ℤ y *ℤ fall_allowance u b m)
    → w ≡ running_weight u q t → x ≡ at q.rise t → y ≡ at q.fall t → r ≡ weight_in u q t b m
unfolding weight_in
weight_joined u q t b m r w x y e f g h =
    e ∙ λ j. cond (running m) (f j) (pos 0) +ℤ cond (starts b m) (yuan u.start_cost) (pos 0) -ℤ pos 1000 *ℤ (g j *ℤ rise_allowance u b m +ℤ h j *ℤ fall_allowance u b m)
