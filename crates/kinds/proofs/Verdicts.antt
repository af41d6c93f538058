-- A verdict asked period by period tells the sum of the costs or the first rule broken, and a loop gives it. Assumes nothing.
use Rattle.std.proofs.Common.{◌≡◌, ℕ, zero, suc, ◌+◌, ◌<◌, ℤ, pos, ◌+ℤ◌, Some, None, Ok, Err, Option, Result, sym, refl, ap, ◌∙◌, subst, ⊎_elim, arith, below_more}
use Rattle.std.proofs.lemmas.Bool.{cases_order}
use Rattle.std.proofs.lemmas.Option.{none-some}
use Rattle.measures.specs.Amounts.{grains}
use Rattle.measures.specs.declared.Grains.{Grains}
use Rattle.market.specs.Fleet.{broken}
use Rattle.market.specs.declared.broken.Broken.{Broken}
use Rattle.market.proofs.Totals.{total_more}
use Rattle.kinds.specs.Verdicts.{and_then, verdict_over, Keeps, LawfulAt, BreaksFirst, breaks, Tells, Judged}

module _ (rule : ℕ → Option ℕ) (cost : ℕ → ℤ) where
  keeps_more : (n : ℕ) → Keeps rule n → rule n ≡ None → Keeps rule (suc n)
  keeps_more n before here s h = below_more (λ s. rule s ≡ None) n before here s (omega arith)

  -- what one period more tells
  tells_more : (n : ℕ) (v : Result Grains Broken) (r : Option ℕ) → rule n ≡ r → Tells rule cost n v → Tells rule cost (suc n) (and_then v r (cost n) n)
  tells_more n (Err e) r h (breaks t k w b is) = breaks t k (omega arith) b is
  tells_more n (Ok c) None h l = record { keeps = keeps_more n l.keeps h; sum = ap (λ z. z +ℤ cost n) l.sum }
  tells_more n (Ok c) (Some k) h l = breaks n k (omega arith) l.keeps h

  -- the verdict tells what is so
  pub verdict_tells : (n : ℕ) → Tells rule cost n (verdict_over rule cost n)
  verdict_tells zero = record { keeps = λ s h. absurd (omega arith); sum = refl }
  verdict_tells (suc n) = tells_more n (verdict_over rule cost n) (rule n) refl (verdict_tells n)

  -- two periods that break a rule first are one
  first_same : (n : ℕ) (e f : Broken) → BreaksFirst rule n e → BreaksFirst rule n f → e ≡ f
  first_same n e f (breaks s j a b c) (breaks t k x y z) =
      ⊎_elim (λ same. let there : rule s ≡ Some k = ap rule same ∙ z in let number : j ≡ k = cc in cc)
      (⊎_elim (λ sooner. absurd (none-some j (sym (y s sooner) ∙ c))) (λ later. absurd (none-some k (sym (b t later) ∙ z)))) (cases_order s t)

  -- one verdict alone tells what is so
  tells_same : (n : ℕ) (v w : Result Grains Broken) → Tells rule cost n v → Tells rule cost n w → v ≡ w
  tells_same n (Ok c) (Ok d) l m = ap (λ z. Ok (grains z)) (l.sum ∙ sym m.sum)
  tells_same n (Ok c) (Err e) l (breaks t k w b is) = absurd (none-some k (sym (l.keeps t w) ∙ is))
  tells_same n (Err e) (Ok d) (breaks t k w b is) m = absurd (none-some k (sym (m.keeps t w) ∙ is))
  tells_same n (Err e) (Err f) l m = ap Err (first_same n e f l m)

  pub judged_so : (n : ℕ) (v : Result Grains Broken) → Tells rule cost n v → Judged rule cost n v
  judged_so n v t = record { is = tells_same n v (verdict_over rule cost n) t (verdict_tells n); tells = t; alone = λ w u. tells_same n w v u t }

  -- a loop over the periods: before the first, one more that breaks no rule, past the last, and one that breaks rule k
  pub lawful_none : LawfulAt rule cost 0 (grains (pos 0))
  lawful_none = record { keeps = λ s h. absurd (omega arith); sum = refl }

  pub lawful_more : (t : ℕ) (c : ℤ) → LawfulAt rule cost t (grains c) → rule t ≡ None → LawfulAt rule cost (t + 1) (grains (c +ℤ cost t))
  lawful_more t c l h = record { keeps = below_more (λ s. rule s ≡ None) t l.keeps h; sum = ap (λ z. z +ℤ cost t) l.sum ∙ sym (total_more t cost) }

  pub judged_lawful : (n t : ℕ) (c : Grains) → t ≡ n → LawfulAt rule cost t c → Judged rule cost n (Ok c)
  judged_lawful n t c e l = judged_so n (Ok c) (subst (λ k. LawfulAt rule cost k c) e l)

  pub judged_broken : (n t k : ℕ) (c : Grains) → t < n → LawfulAt rule cost t c → rule t ≡ Some k → Judged rule cost n (Err (broken k (t + 1)))
  judged_broken n t k c h l is = judged_so n _ (breaks t k h l.keeps is)

-- rules and costs that are the same in each of n periods give the same verdict
pub verdict_same : (rule other : ℕ → Option ℕ) (cost price : ℕ → ℤ) (n : ℕ) → ((t : ℕ) → t < n → rule t ≡ other t) → ((t : ℕ) → t < n → cost t ≡ price t) → verdict_over rule cost n ≡ verdict_over other price n
verdict_same rule other cost price zero h k = refl
verdict_same rule other cost price (suc n) h k =
    λ j. and_then (verdict_same rule other cost price n (λ t l. h t (omega arith)) (λ t l. k t (omega arith)) j) (h n (omega arith) j) (k n (omega arith) j) n
