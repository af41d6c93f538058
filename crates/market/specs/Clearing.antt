-- When a plan is lawful, what it costs, and the floor that a price set gives. Assumes nothing.
use Rattle.std.specs.Prelude.{◌≡◌, ℕ, zero, suc, ◌+◌, ◌*◌, ◌<◌, ◌≤◌, true, List, [], ◌∷◌, map, length, take, drop, ℤ, pos, ◌+ℤ◌, ◌-ℤ◌, ◌*ℤ◌, ◌≤ℤ◌, is_ok, Ok, Err, Result}
use Rattle.measures.specs.declared.Grains.{Grains}
use Rattle.market.specs.declared.broken.Broken.{Broken}
use Rattle.market.specs.declared.refusal.Refusal.{Refusal}
use Rattle.market.specs.declared.refusal.Refusal.TheVariants.{Row, Balance, Upper, Lower}
use Rattle.market.specs.Days.{Numbers}
use Rattle.market.specs.Fleet.{Meaning, Facts, Schedule, RowPrices}
use Rattle.market.specs.Scans.{at, Within, UpTo}
use Rattle.market.specs.Totals.{total}

-- a plan's marks and outputs, row by row and then by period
pub record Plan : Type 0 where
  pub marks : List ℕ
  pub outputs : List ℤ

-- system prices by period, prices of upper and lower limits line by line, of rises and falls row by row, and then by period
pub record PriceSet : Type 0 where
  pub system : List ℤ
  pub upper : List ℤ
  pub lower : List ℤ
  pub rise : List ℤ
  pub fall : List ℤ

abbrev pub part : {A : Type 0} → ℕ → ℕ → List A → List A
part n item xs = take n (drop (item * n) xs)

abbrev pub range : ℕ → ℕ → List ℕ
range from zero = []
range from (suc n) = from ∷ range (suc from) n

-- the cost that a verdict tells
abbrev pub amount : Result Grains Broken → ℤ
amount (Ok c) = c.0
amount (Err e) = pos 0

module _ (d : Numbers) where
  -- row r of a plan, and its output in period t; periods count from 0 here
  abbrev pub row : Plan → ℕ → Schedule
  row p r = record { marks = part d.periods r p.marks; outputs = part d.periods r p.outputs }

  abbrev pub output : Plan → ℕ → ℕ → ℤ
  output p r t = at p.outputs (r * d.periods + t)

  -- the load at node k in period t, and the share of what node k feeds in that flows over line l
  abbrev pub load : ℕ → ℕ → ℤ
  load k t = at d.loads (k * d.periods + t)

  abbrev pub factor : ℕ → ℕ → ℤ
  factor l k = at d.factors (l * d.nodes + k)

  abbrev pub demand : ℕ → ℤ
  demand t = total d.nodes (λ k. load k t)

  -- what a tenth fed in at node k in period t is worth
  abbrev pub net_price : PriceSet → ℕ → ℕ → ℤ
  net_price s k t = (pos 1000 *ℤ at s.system t) -ℤ total d.lines (λ l. (at s.upper (l * d.periods + t) -ℤ at s.lower (l * d.periods + t)) *ℤ factor l k)

module _ (d : Numbers) (m : Meaning) where
  abbrev pub supply : Plan → ℕ → ℤ
  supply p t = total m.size (λ r. output d p r t)

  abbrev pub flow : Plan → ℕ → ℕ → ℤ
  flow p l t = total m.size (λ r. factor d l (m.node r) *ℤ output d p r t) -ℤ total d.nodes (λ k. factor d l k *ℤ load d k t)

  abbrev pub UnderUpper : Plan → ℕ → ℕ → Type 0
  UnderUpper p t l = flow p l t ≤ℤ (pos 1000 *ℤ at d.upper l)

  abbrev pub OverLower : Plan → ℕ → ℕ → Type 0
  OverLower p t l = (pos 1000 *ℤ at d.lower l) ≤ℤ flow p l t

  -- in period t the outputs add to the loads
  abbrev pub Balanced : Plan → ℕ → Type 0
  Balanced p t = supply p t ≡ demand d t

  -- in period t every line before l keeps its limits
  abbrev pub LinesKept : Plan → ℕ → ℕ → Type 0
  LinesKept p t l = (k : ℕ) → k < l → UnderUpper p t k × OverLower p t k

  -- every period before t is balanced and keeps its lines
  abbrev pub Cleared : Plan → ℕ → Type 0
  Cleared p t = (s : ℕ) → s < t → Balanced p s × LinesKept p s d.lines

  -- every row before r is lawful
  abbrev pub RowsKept : Plan → ℕ → Type 0
  RowsKept p r = (k : ℕ) → k < r → is_ok (m.verdict k (row d p k)) ≡ true

  pub record Lawful (p : Plan) : Type 0 where
    pub marks : length p.marks ≡ m.size * d.periods
    pub outputs : length p.outputs ≡ m.size * d.periods
    pub rows : RowsKept p m.size
    pub periods : Cleared p d.periods

  abbrev pub cost : Plan → ℤ
  cost p = total m.size (λ r. amount (m.verdict r (row d p r)))

  -- e tells the first rule that the plan breaks
  pub data BreaksFirst (p : Plan) : Refusal → Type 0 where
    row_rule : (r : ℕ) (e : Broken) → r < m.size → RowsKept p r → m.verdict r (row d p r) ≡ Err e → BreaksFirst p (Row r e)
    balance : (t : ℕ) → t < d.periods → RowsKept p m.size → Cleared p t → (Balanced p t → ⊥) → BreaksFirst p (Balance (t + 1))
    upper_limit : (t l : ℕ) → t < d.periods → l < d.lines → RowsKept p m.size → Cleared p t → Balanced p t → LinesKept p t l → (UnderUpper p t l → ⊥) → BreaksFirst p (Upper l (t + 1))
    lower_limit : (t l : ℕ) → t < d.periods → l < d.lines → RowsKept p m.size → Cleared p t → Balanced p t → LinesKept p t l → UnderUpper p t l → (OverLower p t l → ⊥) → BreaksFirst p (Lower l (t + 1))

  abbrev pub row_prices : PriceSet → ℕ → RowPrices
  row_prices s r = record { net = map (net_price d s (m.node r)) (range 0 d.periods); rise = part d.periods r s.rise; fall = part d.periods r s.fall }

  abbrev pub floor : PriceSet → ℤ
  floor s = total m.size (λ r. (m.floor r (row_prices s r)).0) +ℤ total d.periods (λ t. total d.nodes (λ k. net_price d s k t *ℤ load d k t) -ℤ (pos 1000 *ℤ total d.lines (λ l. (at s.upper (l * d.periods + t) *ℤ at d.upper l) -ℤ (at s.lower (l * d.periods + t) *ℤ at d.lower l))))

-- every price is within its limits
pub record InRange (d : Numbers) (m : Meaning) (s : PriceSet) : Type 0 where
  pub system : (t : ℕ) → t < d.periods → Within 1000000 (at s.system t)
  pub upper : (i : ℕ) → i < d.lines * d.periods → UpTo 1000000 (at s.upper i)
  pub lower : (i : ℕ) → i < d.lines * d.periods → UpTo 1000000 (at s.lower i)
  pub rise : (i : ℕ) → i < m.size * d.periods → UpTo 1000000 (at s.rise i)
  pub fall : (i : ℕ) → i < m.size * d.periods → UpTo 1000000 (at s.fall i)

-- the theorem that every floor rests on: no lawful plan undercuts it, whatever its marks
abbrev pub NoPlanUndercuts : Numbers → Meaning → PriceSet → Type 0
NoPlanUndercuts d m s = (p : Plan) → Lawful d m p → floor d m s ≤ℤ cost d m p

-- the fleet has t periods and 1 to 32 rows, each at a node below n
pub record PlacedAt (m : Meaning) (t n : ℕ) : Type 0 where
  pub periods : m.periods ≡ t
  pub some : (1 ≤ m.size) × (m.size ≤ 32)
  pub nodes : (r : ℕ) → r < m.size → m.node r < n

abbrev pub Placed : Numbers → Meaning → Type 0
Placed d m = PlacedAt m d.periods d.nodes

-- few lines and small factors, so that no net price passes its limit
pub record Moderate (d : Numbers) : Type 0 where
  pub lines : d.lines ≤ 16
  pub factors : (i : ℕ) → i < d.lines * d.nodes → Within 1000 (at d.factors i)

-- every list of prices has a cell for each of its items and periods
pub record Sized (d : Numbers) (m : Meaning) (s : PriceSet) : Type 0 where
  pub system : length s.system ≡ d.periods
  pub upper : length s.upper ≡ d.lines * d.periods
  pub lower : length s.lower ≡ d.lines * d.periods
  pub rise : length s.rise ≡ m.size * d.periods
  pub fall : length s.fall ≡ m.size * d.periods

-- the theorem, over every day, fleet and price set
abbrev pub FloorsStand : Type 0
FloorsStand = (d : Numbers) (m : Meaning) (s : PriceSet) → Facts m → Placed d m → Moderate d → Sized d m s → InRange d m s → NoPlanUndercuts d m s
