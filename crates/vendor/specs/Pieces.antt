-- What stands between separators. Assumes nothing.
use Rattle.std.specs.Prelude.{◌≡◌, ℕ, ◌<◌, List, length, ◌==◌, ◌≢◌}
use Rattle.std.specs.List.{AllByRecursion, slice_split, join_with_byte}

-- the pieces of a text, in order: what stands before, between and after its separators
unfoldable pub pieces : ℕ → List ℕ → List (List ℕ)
pieces sep bs = slice_split (λ b. b == sep) bs

-- no byte of the text is the separator
abbrev pub Lacks : ℕ → List ℕ → Type 0
Lacks sep bs = AllByRecursion (λ b. b ≢ sep) bs

-- ps are the text cut at every separator: joined, with a separator between each two, they are the text, and none holds a separator
pub record CutAt (sep : ℕ) (bs : List ℕ) (ps : List (List ℕ)) : Type 0 where
  pub some : 0 < length ps
  pub whole : join_with_byte sep ps ≡ bs
  pub clean : AllByRecursion (Lacks sep) ps

-- every text is cut in one way only, and `pieces` gives it
abbrev pub PiecesAreWhatStandsBetween : Type 0
PiecesAreWhatStandsBetween = (sep : ℕ) (bs : List ℕ) → CutAt sep bs (pieces sep bs) × ((ps : List (List ℕ)) → CutAt sep bs ps → ps ≡ pieces sep bs)
