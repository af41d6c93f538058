-- A sum of signed numbers that an iterator takes of a slice. Assumes nothing.
use Rattle.std.proofs.Common.{◌≡◌, ℕ, suc, ◌+◌, ◌*◌, ◌<◌, ◌≤◌, List, [], ◌∷◌, map, length, take, ℤ, pos, ◌+ℤ◌, Bor, Iter, sym, ap, ◌∙◌, subst, mul-le-mul_right, arith}
use Rattle.std.specs.Int.{w32}
use Rattle.std.specs.Prelude.{FitsSigned}
use Rattle.std.proofs.iter.Yields.{fronts}
use Rattle.std.proofs.lemmas.Int.{ints}
use Rattle.std.proofs.lemmas.Iterator.{YieldsList-from_slice, items_from_drains}
use Rattle.std.proofs.lemmas.Iterator.Consumers.{YieldsList-so_far}
use Rattle.std.proofs.lemmas.List.{length-map, length-take, get_or-take}
use Rattle.std.specs.Iterator.{Yields, Drains}
use Rattle.std.specs.Iterator.Runs.{EachRunFrom, YieldsRun}
use Rattle.std.specs.Bool.{⊤}
use Rattle.std.specs.List.{fold}
use Rattle.std.specs.Slice.Iter.{iter_rest}
use Rattle.market.specs.Scans.{at, Within}
use Rattle.market.specs.Totals.{total}
use Rattle.market.proofs.Totals.{total_within}

-- from the first number on
added : (g : ℕ → ℤ) (n : ℕ) (xs : List (Bor ℤ)) → ((k : ℕ) → k < length xs → at (map (λ y. y.now) xs) k ≡ g (n + k)) → fold (λ a x. a +ℤ x.now) (total n g) xs ≡ total (n + length xs) g
added g n [] h = let e : n ≡ n + 0 = omega arith in ap (λ k. total k g) e
added g n (x ∷ xs) h =
    let first : n + 0 ≡ n = omega arith in
    let more : suc n + length xs ≡ n + suc (length xs) = omega arith in
    ap (λ z. fold (λ a x. a +ℤ x.now) (total n g +ℤ z) xs) (h 0 (omega arith) ∙ ap g first)
    ∙ added g (suc n) xs (λ k l. let on : n + suc k ≡ suc n + k = omega arith in h (suc k) (omega arith) ∙ ap g on)
    ∙ ap (λ k. total k g) more

whole : (g : ℕ → ℤ) (xs : List (Bor ℤ)) → ((k : ℕ) → k < length xs → at (map (λ y. y.now) xs) k ≡ g k) → fold (λ a x. a +ℤ x.now) (pos 0) xs ≡ total (length xs) g
whole g xs h =
    let none : 0 + length xs ≡ length xs = omega arith in
    added g 0 xs (λ k l. let on : k ≡ 0 + k = omega arith in h k l ∙ ap g on) ∙ ap (λ k. total k g) none

-- where the items are the first of the slice
so_far : (all : List ℤ) (xs : List (Bor ℤ)) → map (λ y. y.now) xs ≡ take (length xs) all → fold (λ a x. a +ℤ x.now) (pos 0) xs ≡ total (length xs) (at all)
so_far all xs e = whole (at all) xs (λ k l. (λ j. at (e j) k) ∙ get_or-take (length xs) all k (pos 0) l)

shorter : (all : List ℤ) (xs : List (Bor ℤ)) → map (λ y. y.now) xs ≡ take (length xs) all → length xs ≤ length all
shorter all xs e = let a = length-map xs (λ y. y.now) in let b = length-take (length xs) all in let c = ap length e in omega (arith, a, b, c)

small_fits : (n c : ℕ) (z : ℤ) → n * c < 2147483648 → Within (n * c) z → FitsSigned w32 z
small_fits n c z l h = omega (arith, ints)

pub wider : (n c m : ℕ) (z : ℤ) → n * c ≤ m → Within (n * c) z → Within m z
wider n c m z l h = (omega (arith, ints), omega (arith, ints))

module _ {s : Iter ℤ} (all : List ℤ) (rest : iter_rest s ≡ all) where
  pub sum_fits : (c : ℕ) → ((k : ℕ) → k < length all → Within c (at all k)) → length all * c < 2147483648 → EachRunFrom fronts s (λ p. FitsSigned w32 (fold (λ a x. a +ℤ x.now) (pos 0) p.items))
  unfolding YieldsRun
  sum_fits c small few = λ p _ from.
      let e = YieldsList-so_far (YieldsList-from_slice all rest) p.items p.gave.0.0 (subst (λ u. Yields fronts u p.items p.gave.0.0) from p.gave.0.1) in
      let l = shorter all p.items e in
      let m : length p.items * c ≤ length all * c = mul-le-mul_right c l in
      subst (FitsSigned w32) (sym (so_far all p.items e)) (small_fits (length p.items) c _ (omega arith) (total_within (length p.items) c (at all) (λ k h. small k (omega (arith, l)))))

  pub sum_is : (r : ℤ) → ((xs : List (Bor ℤ)) × (⊤ → Drains fronts s xs) × (r ≡ fold (λ a x. a +ℤ x.now) (pos 0) xs)) → r ≡ total (length all) (at all)
  sum_is r h =
      let d = h.1 tt in
      let e = items_from_drains h.0 (d.1.0, d.1.1, λ _. (d.0, d.1.2)) (YieldsList-from_slice all rest) in
      let n = length-map h.0 (λ y. y.now) in
      h.2 ∙ whole (at all) h.0 (λ k l. λ j. at (e j) k) ∙ ap (λ k. total k (at all)) (sym n ∙ ap length e)
