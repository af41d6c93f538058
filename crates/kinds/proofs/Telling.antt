-- What a fault is turned into where it is passed on by `map_err` and then `?`. Assumes nothing.
use Rattle.std.proofs.Common.{◌≡◌, ℕ, Ok, Err, Result, MatchResult, sym, refl, ap, ◌∙◌, subst, arith}
use Rattle.std.proofs.lemmas.Result.{MatchResult-at_err}
use Rattle.std.specs.Result.{IsErrAnd}

-- no answer is both a value and a fault
pub two : {A D : Type 0} (x : A) (d : D) (s : Result A D) → s ≡ Ok x → s ≡ Err d → ⊥
two x d s e f = let z : ◌≡◌ {A = ℕ} 0 1 = cc in omega arith

-- r is what the call gave, and s what that was turned into
module _ {A E D : Type 0} (R : E → D → Type 0) where
  -- passed on as it is
  pub told_ok : (r : Result A E) (s : Result A D) (x : A) → MatchResult r (λ y. s ≡ Ok y) (λ e. IsErrAnd s (R e)) → s ≡ Ok x → r ≡ Ok x
  told_ok (Ok y) s x is e = let f : ◌≡◌ {A = Result A D} (Ok y) (Ok x) = sym is ∙ e in let g : y ≡ x = cc in ap Ok g
  told_ok (Err y) s x is e = absurd (subst (λ z. IsErrAnd z (R y)) e is)

  -- the fault, and what it was turned into
  pub told_err : (f : E → D) (r : Result A E) (s : Result A D) (d : D) → ((e : E) → R e d → d ≡ f e) → MatchResult r (λ x. s ≡ Ok x) (λ e. IsErrAnd s (R e)) → s ≡ Err d → (e : E) × (r ≡ Err e) × (d ≡ f e)
  told_err f (Ok x) s d same is e = absurd (two x d s is e)
  told_err f (Err y) s d same is e = (y, refl, same y (subst (λ x. IsErrAnd x (R y)) e is))

-- the same, with what the call says of the fault
pub told_on : {A E D : Type 0} (P : A → Type 0) (Q : E → Type 0) (R : E → D → Type 0) (f : E → D) (r : Result A E) (s : Result A D) (d : D) → ((e : E) → R e d → d ≡ f e) → MatchResult r P Q → MatchResult r (λ x. s ≡ Ok x) (λ e. IsErrAnd s (R e)) → s ≡ Err d → (e : E) × Q e × (d ≡ f e)
told_on P Q R f r s d same h is e = let t = told_err R f r s d same is e in (t.0, MatchResult-at_err P Q t.0 t.1 h, t.2)
