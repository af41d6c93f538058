-- Whether a fleet fits a day, and the first no where it does not. Assumes nothing.
use Rattle.std.specs.Prelude.{◌≡◌, ℕ, ◌<◌, ◌≤◌, Some, None, Option}
use Rattle.market.specs.declared.refusal.Refusal.{Refusal}
use Rattle.market.specs.declared.refusal.Refusal.TheVariants.{Misfit, Node}
use Rattle.market.specs.Days.{Numbers}
use Rattle.market.specs.Fleet.{Meaning}

-- every row before r stands at a node below n
abbrev pub NodesBelow : Meaning → ℕ → ℕ → Type 0
NodesBelow m n r = (j : ℕ) → j < r → m.node j < n

pub record FirstMisplaced (m : Meaning) (n r : ℕ) : Type 0 where
  pub within : r < m.size
  pub before : NodesBelow m n r
  pub out : n ≤ m.node r

abbrev pub Misplaced : Meaning → ℕ → Option ℕ → Type 0
Misplaced m n None = NodesBelow m n m.size
Misplaced m n (Some r) = FirstMisplaced m n r

-- t periods, and 1 to 32 rows
pub record SizesFit (m : Meaning) (t : ℕ) : Type 0 where
  pub periods : m.periods ≡ t
  pub some : (1 ≤ m.size) × (m.size ≤ 32)

pub data UnplacedAt (m : Meaning) (t n : ℕ) : Refusal → Type 0 where
  sizes : (SizesFit m t → ⊥) → UnplacedAt m t n Misfit
  row : (r : ℕ) → SizesFit m t → FirstMisplaced m n r → UnplacedAt m t n (Node r)

abbrev pub Unplaced : Numbers → Meaning → Refusal → Type 0
Unplaced d m = UnplacedAt m d.periods d.nodes
