-- What each node feeds in, rows and loads together. Assumes nothing.
use Rattle.std.specs.Prelude.{◌≡◌, ℕ, ◌+◌, ◌<◌, cond, List, ℤ, pos, ◌-ℤ◌, ◌*ℤ◌, ◌≤ℤ◌, Ok, Err, Result, ◌==◌}
use Rattle.market.specs.declared.refusal.Refusal.{Refusal}
use Rattle.market.specs.declared.refusal.Refusal.TheVariants.{Upper, Lower}
use Rattle.market.specs.Clearing.{Plan, output, load, factor}
use Rattle.market.specs.Days.{Numbers}
use Rattle.market.specs.Fleet.{Meaning}
use Rattle.market.specs.Scans.{at}
use Rattle.market.specs.Totals.{total}

module _ (d : Numbers) (m : Meaning) (p : Plan) where
  -- what row r feeds in at node k in period t
  abbrev pub fed_by : ℕ → ℕ → ℕ → ℤ
  fed_by t k r = cond (m.node r == k) (output d p r t) (pos 0)

  -- what the rows feed in at node k, less its load
  abbrev pub injection : ℕ → ℕ → ℤ
  injection t k = total m.size (fed_by t k) -ℤ load d k t

-- of the first n nodes, each draws its load in period t
abbrev pub Drawn : Numbers → ℕ → List ℤ → ℕ → Type 0
Drawn d t fed n = (k : ℕ) → k < n → at fed k ≡ pos 0 -ℤ load d k t

-- each node of the day feeds in, net, what the rows before r feed in there less its load
abbrev pub Fed : Numbers → Meaning → Plan → ℕ → ℕ → List ℤ → Type 0
Fed d m p t r fed = (k : ℕ) → k < d.nodes → at fed k ≡ total r (fed_by d m p t k) -ℤ load d k t

-- the flow over line l of what the nodes feed in
abbrev pub flow_of : Numbers → List ℤ → ℕ → ℤ
flow_of d fed l = total d.nodes (λ k. factor d l k *ℤ at fed k)

-- every line before l carries at most its upper limit and at least its lower
abbrev pub KeptBefore : Numbers → (ℕ → ℤ) → ℕ → Type 0
KeptBefore d f l = (k : ℕ) → k < l → (f k ≤ℤ (pos 1000 *ℤ at d.upper k)) × ((pos 1000 *ℤ at d.lower k) ≤ℤ f k)

pub data LineBroken (d : Numbers) (f : ℕ → ℤ) (t : ℕ) : Refusal → Type 0 where
  over : (l : ℕ) → l < d.lines → KeptBefore d f l → (f l ≤ℤ (pos 1000 *ℤ at d.upper l) → ⊥) → LineBroken d f t (Upper l (t + 1))
  under : (l : ℕ) → l < d.lines → KeptBefore d f l → f l ≤ℤ (pos 1000 *ℤ at d.upper l) → ((pos 1000 *ℤ at d.lower l) ≤ℤ f l → ⊥) → LineBroken d f t (Lower l (t + 1))

abbrev pub LinesTold : Numbers → (ℕ → ℤ) → ℕ → Result (Unit {0}) Refusal → Type 0
LinesTold d f t (Ok u) = KeptBefore d f d.lines
LinesTold d f t (Err e) = LineBroken d f t e
