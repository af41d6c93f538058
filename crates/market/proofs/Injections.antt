-- Balance and flows by node: what the rows feed in, gathered at the nodes, comes to the same. Assumes nothing.
use Rattle.std.proofs.Common.{◌≡◌, ℕ, zero, suc, ◌<◌, Bool, true, false, cond, eqb, ℤ, pos, ◌+ℤ◌, ◌-ℤ◌, ◌*ℤ◌, sym, refl, ap, ◌∙◌, ⊎_elim, arith}
use lib.IntN.{*ℤ-zero}
use Rattle.std.proofs.lemmas.Int.{ints}
use Rattle.std.proofs.lemmas.Bool.{cond-true, cond-false, eq-eqb, ne_eqb, cases_eq}
use Rattle.market.specs.Clearing.{Plan, output, load, factor, supply, demand, flow}
use Rattle.market.specs.Days.{Numbers}
use Rattle.market.specs.Fleet.{Meaning}
use Rattle.market.specs.Injections.{fed_by, injection}
use Rattle.market.specs.Totals.{total}
use Rattle.market.proofs.Ints.{times_sub}
use Rattle.market.proofs.Totals.{total_cong, total_sub, total_times, total_swap, total_zero}

-- of numbers that are all zero but at j, the sum is the one at j
none_there : (n j : ℕ) (f : ℕ → ℤ) → ((k : ℕ) → k < n → j ≡ k → ⊥) → total n (λ k. cond (eqb j k) (f k) (pos 0)) ≡ pos 0
none_there n j f away = total_cong n _ (λ k. pos 0) (λ k h. cond-false (eqb j k) _ _ (ne_eqb j k (away k h))) ∙ total_zero n

pub total_pick : (n j : ℕ) (f : ℕ → ℤ) → j < n → total n (λ k. cond (eqb j k) (f k) (pos 0)) ≡ f j
total_pick zero j f h = absurd (omega arith)
total_pick (suc n) j f h =
    ⊎_elim
    (λ e. last (none_there n j f (λ k lt same. omega arith)) (cond-true (eqb j n) (f n) (pos 0) (eq-eqb j n e) ∙ ap f (sym e)))
    (λ ne. rest (total_pick n j f (omega arith)) (cond-false (eqb j n) (f n) (pos 0) (ne_eqb j n ne)))
    (cases_eq j n)
  where
    last : {a b c : ℤ} → a ≡ pos 0 → b ≡ c → a +ℤ b ≡ c
    last e g = omega (arith, ints)

    rest : {a b c : ℤ} → a ≡ c → b ≡ pos 0 → a +ℤ b ≡ c
    rest e g = omega (arith, ints)

times_cond : (g o : ℤ) (b : Bool) → g *ℤ cond b o (pos 0) ≡ cond b (g *ℤ o) (pos 0)
times_cond g o true = refl
times_cond g o false = *ℤ-zero g

-- g is the weight of a node; the rows' outputs, weighed at their nodes, are the nodes' sums, weighed
gathered : (n nodes : ℕ) (ν : ℕ → ℕ) (o : ℕ → ℤ) (g : ℕ → ℤ) → ((r : ℕ) → r < n → ν r < nodes)
    → total nodes (λ k. g k *ℤ total n (λ r. cond (eqb (ν r) k) (o r) (pos 0))) ≡ total n (λ r. g (ν r) *ℤ o r)
gathered n nodes ν o g within =
    total_cong nodes _ _ (λ k h. sym (total_times n (g k) (λ r. cond (eqb (ν r) k) (o r) (pos 0))))
    ∙ total_swap nodes n (λ k r. g k *ℤ cond (eqb (ν r) k) (o r) (pos 0))
    ∙ total_cong n _ _ (λ r h. total_cong nodes _ _ (λ k lt. times_cond (g k) (o r) (eqb (ν r) k)) ∙ total_pick nodes (ν r) (λ k. g k *ℤ o r) (within r h))

module _ (d : Numbers) (m : Meaning) (p : Plan) (nodes : (r : ℕ) → r < m.size → m.node r < d.nodes) where
  pub flow_gathered : (l t : ℕ) → total d.nodes (λ k. factor d l k *ℤ injection d m p t k) ≡ flow d m p l t
  flow_gathered l t =
      total_cong d.nodes _ _ (λ k h. times_sub (factor d l k) (total m.size (fed_by d m p t k)) (load d k t))
      ∙ total_sub d.nodes (λ k. factor d l k *ℤ total m.size (fed_by d m p t k)) (λ k. factor d l k *ℤ load d k t)
      ∙ ap (λ x. x -ℤ total d.nodes (λ k. factor d l k *ℤ load d k t)) (gathered m.size d.nodes m.node (λ r. output d p r t) (factor d l) nodes)

  pub balance_gathered : (t : ℕ) → total d.nodes (injection d m p t) ≡ supply d m p t -ℤ demand d t
  balance_gathered t =
      total_sub d.nodes (λ k. total m.size (fed_by d m p t k)) (λ k. load d k t)
      ∙ ap (λ x. x -ℤ demand d t) (total_swap d.nodes m.size (fed_by d m p t)
      ∙ total_cong m.size _ _ (λ r h. total_pick d.nodes (m.node r) (λ k. output d p r t) (nodes r h)))
