-- A price set bounded: its questions in order, and the floor that it gives. Assumes nothing.
use Rattle.std.specs.Prelude.{◌≡◌, ℕ, ◌+◌, ◌*◌, ◌/◌, ◌%◌, ◌<◌, List, length, ℤ, pos, ◌-ℤ◌, ◌*ℤ◌, neg_ℤ, ◌≤ℤ◌, Ok, Err, Result}
use Rattle.measures.specs.declared.Grains.{Grains}
use Rattle.market.specs.declared.price_set.PriceSet.{PriceSet as Handed}
use Rattle.market.specs.declared.refusal.Refusal.{Refusal}
use Rattle.market.specs.declared.refusal.Refusal.TheVariants.{Lengths, Price}
use Rattle.market.specs.Clearing.{Plan, PriceSet, Placed, Sized, InRange, Lawful, cost, floor, net_price, row_prices, load}
use Rattle.market.specs.Days.{Numbers}
use Rattle.market.specs.Fleet.{Meaning, Same}
use Rattle.market.specs.Placing.{Unplaced}
use Rattle.market.specs.Scans.{at, InBefore, FirstOut, Within}
use Rattle.market.specs.Totals.{total}

abbrev pub prices_of : Handed → PriceSet
prices_of s = record { system = s.system.now; upper = s.upper.now; lower = s.lower.now; rise = s.rise.now; fall = s.fall.now }

-- every system price is within its limits
abbrev pub SystemFits : PriceSet → Type 0
SystemFits s = InBefore (neg_ℤ (pos 1000000)) (pos 1000000) s.system (length s.system)

-- every price of a limit, a rise or a fall is within its limits
abbrev pub PricesFit : List ℤ → Type 0
PricesFit xs = InBefore (pos 0) (pos 1000000) xs (length xs)

-- of a table of n periods an item, e tells the first price that is out of its limits
pub data Over (n : ℕ) (xs : List ℤ) : Refusal → Type 0 where
  over : (item t : ℕ) → t < n → FirstOut (pos 0) (pos 1000000) xs (item * n + t) → Over n xs (Price item (t + 1))

abbrev pub OverTold : ℕ → List ℤ → Result (Unit {0}) Refusal → Type 0
OverTold n xs (Ok u) = PricesFit xs
OverTold n xs (Err e) = Over n xs e

-- the first price of a day of n periods that is out of its limits: 19, with its line or row and its period
pub data OutOfRange (n : ℕ) (s : PriceSet) : Refusal → Type 0 where
  system : (t : ℕ) → FirstOut (neg_ℤ (pos 1000000)) (pos 1000000) s.system t → OutOfRange n s (Price 0 (t + 1))
  upper : (e : Refusal) → SystemFits s → Over n s.upper e → OutOfRange n s e
  lower : (e : Refusal) → SystemFits s → PricesFit s.upper → Over n s.lower e → OutOfRange n s e
  rise : (e : Refusal) → SystemFits s → PricesFit s.upper → PricesFit s.lower → Over n s.rise e → OutOfRange n s e
  fall : (e : Refusal) → SystemFits s → PricesFit s.upper → PricesFit s.lower → PricesFit s.rise → Over n s.fall e → OutOfRange n s e

-- every price is within its limits
pub record AllFit (s : PriceSet) : Type 0 where
  pub system : SystemFits s
  pub upper : PricesFit s.upper
  pub lower : PricesFit s.lower
  pub rise : PricesFit s.rise
  pub fall : PricesFit s.fall

abbrev pub RangesTold : ℕ → PriceSet → Result (Unit {0}) Refusal → Type 0
RangesTold n s (Ok u) = AllFit s
RangesTold n s (Err e) = OutOfRange n s e

-- the first no: the fleet does not fit the day, or a list has not its length, or a price is out of its limits
pub data Refused (d : Numbers) (m : Meaning) (s : PriceSet) : Refusal → Type 0 where
  unplaced : (e : Refusal) → Unplaced d m e → Refused d m s e
  lengths : Placed d m → (Sized d m s → ⊥) → Refused d m s Lengths
  range : (e : Refusal) → Placed d m → Sized d m s → OutOfRange d.periods s e → Refused d m s e

-- told rightly: the fleet does not fit, or a length is wrong, or a price is out of its limits
pub record Rejected (d : Numbers) (m : Meaning) (s : PriceSet) (e : Refusal) : Type 0 where
  pub first : Refused d m s e
  pub rightly : Placed d m → Sized d m s → InRange d m s → ⊥

-- f is the floor that the price set gives: no lawful plan costs less, whatever its marks
pub record Bounded (d : Numbers) (m : Meaning) (s : PriceSet) (f : Grains) : Type 0 where
  pub placed : Placed d m
  pub sized : Sized d m s
  pub within : InRange d m s
  pub floor : f.0 ≡ floor d m s
  pub undercut_by_none : (p : Plan) → Lawful d m p → f.0 ≤ℤ cost d m p
  pub small : Within 4000000000000000000 f.0

-- the floor of a price set in range, or the first no
abbrev pub Answered : Numbers → (m : Meaning) → PriceSet → Result Grains Refusal → Type 0
Answered d m s (Ok f) = Bounded d m s f
Answered d m s (Err e) = Rejected d m s e

-- system prices and prices of lines' limits have their cells, and are within their limits
pub record LinesPriced (d : Numbers) (s : PriceSet) : Type 0 where
  pub system_cells : length s.system ≡ d.periods
  pub upper_cells : length s.upper ≡ d.lines * d.periods
  pub lower_cells : length s.lower ≡ d.lines * d.periods
  pub system : SystemFits s
  pub upper : PricesFit s.upper
  pub lower : PricesFit s.lower

-- the answer to a price set: it alone tells what is so, and every fleet that no question tells from this one gets it too
pub record Told (d : Numbers) (m : Meaning) (s : PriceSet) (a : Result Grains Refusal) : Type 0 where
  pub answer : Answered d m s a
  pub alone : (b : Result Grains Refusal) → Answered d m s b → b ≡ a
  pub alike : (n : Meaning) → Same m n → Answered d n s a

-- the first n cells hold net prices, node by node and then by period
abbrev pub Nets : Numbers → PriceSet → List ℤ → ℕ → Type 0
Nets d s nets n = (i : ℕ) → i < n → at nets i ≡ net_price d s (i / d.periods) (i % d.periods)

module _ (d : Numbers) (s : PriceSet) (t : ℕ) where
  -- in period t: what node k pays for its load, and what the limits of line l come to, in fen
  abbrev pub pays : ℕ → ℤ
  pays k = net_price d s k t *ℤ load d k t

  abbrev pub comes : ℕ → ℤ
  comes l = (at s.upper (l * d.periods + t) *ℤ at d.upper l) -ℤ (at s.lower (l * d.periods + t) *ℤ at d.lower l)

  -- what the loads pay, and what the lines' limits come to
  abbrev pub loads_pay : ℤ
  loads_pay = total d.nodes pays

  abbrev pub limits_come : ℤ
  limits_come = pos 1000 *ℤ total d.lines comes

-- the fleet fits the day, and the price set has its lengths and is within its limits
pub record Ready (d : Numbers) (m : Meaning) (s : PriceSet) : Type 0 where
  pub placed : Placed d m
  pub sized : Sized d m s
  pub fit : AllFit s

-- the nets of a day
pub record Netted (d : Numbers) (s : PriceSet) (nets : List ℤ) : Type 0 where
  pub long : length nets ≡ 1536
  pub told : Nets d s nets (d.nodes * d.periods)

-- c is what the first n periods add to the floor
pub record PeriodsFloored (d : Numbers) (s : PriceSet) (n : ℕ) (c : ℤ) : Type 0 where
  pub sum : c ≡ total n (λ t. loads_pay d s t -ℤ limits_come d s t)
  pub small : Within (n * 17280000000000000) c

-- c is what the floors of the first n rows come to
pub record RowsFloored (d : Numbers) (m : Meaning) (s : PriceSet) (n : ℕ) (c : ℤ) : Type 0 where
  pub sum : c ≡ total n (λ r. (m.floor r (row_prices d m s r)).0)
  pub small : Within (n * 50000000000000000) c

-- c is the floor
pub record Floored (d : Numbers) (m : Meaning) (s : PriceSet) (c : ℤ) : Type 0 where
  pub floor : c ≡ floor d m s
  pub small : Within 4000000000000000000 c
