-- One answer alone tells what is so of a price set, and fleets that no question tells apart get the same. Assumes nothing.
use Rattle.std.proofs.Common.{◌≡◌, ℕ, ◌+◌, ◌*◌, ◌/◌, ◌%◌, ◌<◌, List, map, ℤ, pos, ◌+ℤ◌, ◌-ℤ◌, ◌≤ℤ◌, Ok, Err, Result, sym, refl, ap, ◌∙◌, subst, ⊎_elim}
use Rattle.std.proofs.lemmas.Nat.{div-mul-add, mod-mul-add}
use Rattle.std.proofs.lemmas.Bool.{cases_order}
use Rattle.measures.specs.Amounts.{grains}
use Rattle.measures.specs.declared.Grains.{Grains}
use Rattle.market.specs.declared.refusal.Refusal.{Refusal}
use Rattle.market.specs.declared.refusal.Refusal.TheVariants.{Price}
use Rattle.market.specs.Bounding.{Over, over, OutOfRange, system, upper, lower, rise, fall, PricesFit, Refused, unplaced, lengths, range, Answered, Told, loads_pay, limits_come}
use Rattle.market.specs.Clearing.{Plan, PriceSet, Placed, Sized, InRange, Lawful, cost, floor, range as periods-from, net_price, row_prices, part}
use Rattle.market.specs.Days.{Numbers, Made}
use Rattle.market.specs.Fleet.{Meaning, Facts, Same}
use Rattle.market.specs.Judging as judging
use Rattle.market.specs.Scans.{FirstOut}
use Rattle.market.specs.Totals.{total}
use Rattle.market.proofs.Alike.{flip, total_alike, placed_alike, unplaced_alike, lawful_alike, costs}
use Rattle.market.proofs.Alone.{unplaced_alone}
use Rattle.market.proofs.NetPrices.{moderate_of}
use Rattle.market.proofs.Rejecting.{unplaced_not_placed}
use Rattle.market.proofs.Repricing.{rejected}
use Rattle.market.proofs.Undercut.{priced}

-- ---- one answer alone
first_alone : (low high : ℤ) (xs : List ℤ) (i j : ℕ) → FirstOut low high xs i → FirstOut low high xs j → i ≡ j
first_alone low high xs i j a b =
    ⊎_elim (λ e. e) (⊎_elim (λ l. absurd (a.out (b.before i l))) (λ l. absurd (b.out (a.before j l)))) (cases_order i j)

over_alone : (n : ℕ) (xs : List ℤ) (e f : Refusal) → Over n xs e → Over n xs f → e ≡ f
over_alone n xs _ _ (over i s on a) (over j t to b) =
    let same = first_alone (pos 0) (pos 1000000) xs (i * n + s) (j * n + t) a b in
    let item : i ≡ j = sym (div-mul-add i n s on) ∙ ap (λ k. k / n) same ∙ div-mul-add j n t to in
    let period : s ≡ t = sym (mod-mul-add i n s on) ∙ ap (λ k. k % n) same ∙ mod-mul-add j n t to in
    λ k. Price (item k) (period k + 1)

-- a table with a price out of its limits is not within them
not_fit : (n : ℕ) (xs : List ℤ) (e : Refusal) → Over n xs e → PricesFit xs → ⊥
not_fit n xs _ (over i t on a) fit = a.out (fit (i * n + t) a.within)

out_alone : (n : ℕ) (s : PriceSet) (e f : Refusal) → OutOfRange n s e → OutOfRange n s f → e ≡ f
out_alone n s _ _ (system t a) (system k b) = ap (λ t. Price 0 (t + 1)) (first_alone _ _ s.system t k a b)
out_alone n s _ _ (system t a) (upper f b h) = absurd (a.out (b t a.within))
out_alone n s _ _ (system t a) (lower f b c h) = absurd (a.out (b t a.within))
out_alone n s _ _ (system t a) (rise f b c g h) = absurd (a.out (b t a.within))
out_alone n s _ _ (system t a) (fall f b c g i h) = absurd (a.out (b t a.within))
out_alone n s _ _ (upper e b h) (system t a) = absurd (a.out (b t a.within))
out_alone n s _ _ (lower e b c h) (system t a) = absurd (a.out (b t a.within))
out_alone n s _ _ (rise e b c g h) (system t a) = absurd (a.out (b t a.within))
out_alone n s _ _ (fall e b c g i h) (system t a) = absurd (a.out (b t a.within))
out_alone n s _ _ (upper e b h) (upper f c k) = over_alone n s.upper e f h k
out_alone n s _ _ (upper e b h) (lower f c u k) = absurd (not_fit n s.upper e h u)
out_alone n s _ _ (upper e b h) (rise f c u w k) = absurd (not_fit n s.upper e h u)
out_alone n s _ _ (upper e b h) (fall f c u w x k) = absurd (not_fit n s.upper e h u)
out_alone n s _ _ (lower e b u h) (upper f c k) = absurd (not_fit n s.upper f k u)
out_alone n s _ _ (rise e b u w h) (upper f c k) = absurd (not_fit n s.upper f k u)
out_alone n s _ _ (fall e b u w x h) (upper f c k) = absurd (not_fit n s.upper f k u)
out_alone n s _ _ (lower e b u h) (lower f c v k) = over_alone n s.lower e f h k
out_alone n s _ _ (lower e b u h) (rise f c v w k) = absurd (not_fit n s.lower e h w)
out_alone n s _ _ (lower e b u h) (fall f c v w x k) = absurd (not_fit n s.lower e h w)
out_alone n s _ _ (rise e b u w h) (lower f c v k) = absurd (not_fit n s.lower f k w)
out_alone n s _ _ (fall e b u w x h) (lower f c v k) = absurd (not_fit n s.lower f k w)
out_alone n s _ _ (rise e b u w h) (rise f c v z k) = over_alone n s.rise e f h k
out_alone n s _ _ (rise e b u w h) (fall f c v z x k) = absurd (not_fit n s.rise e h x)
out_alone n s _ _ (fall e b u w x h) (rise f c v z k) = absurd (not_fit n s.rise f k x)
out_alone n s _ _ (fall e b u w x h) (fall f c v z y k) = over_alone n s.fall e f h k

module _ (d : Numbers) (m : Meaning) (s : PriceSet) where
  refused_alone : (e f : Refusal) → Refused d m s e → Refused d m s f → e ≡ f
  refused_alone _ _ (unplaced e u) (unplaced f v) = unplaced_alone d m e f u v
  refused_alone _ _ (unplaced e u) (lengths fit off) = absurd (unplaced_not_placed d m e u fit)
  refused_alone _ _ (unplaced e u) (range f fit sized out) = absurd (unplaced_not_placed d m e u fit)
  refused_alone _ _ (lengths fit off) (unplaced f v) = absurd (unplaced_not_placed d m f v fit)
  refused_alone _ _ (range e fit sized out) (unplaced f v) = absurd (unplaced_not_placed d m f v fit)
  refused_alone _ _ (lengths fit off) (lengths fits out) = refl
  refused_alone _ _ (lengths fit off) (range f fits sized out) = absurd (off sized)
  refused_alone _ _ (range e fits sized out) (lengths fit off) = absurd (off sized)
  refused_alone _ _ (range e fit sized out) (range f fits again off) = out_alone d.periods s e f out off

  answered_alone : (a b : Result Grains Refusal) → Answered d m s a → Answered d m s b → b ≡ a
  answered_alone (Ok x) (Ok y) h k = ap (λ z. Ok (grains z)) (k.floor ∙ sym h.floor)
  answered_alone (Ok x) (Err f) h k = absurd (k.rightly h.placed h.sized h.within)
  answered_alone (Err e) (Ok y) h k = absurd (h.rightly k.placed k.sized k.within)
  answered_alone (Err e) (Err f) h k = ap Err (refused_alone f e k.first h.first)

-- ---- fleets that no question tells apart
lower_first : (x y z : ℤ) → x ≤ℤ y → y ≡ z → x ≤ℤ z
lower_first x y z h e = rw (sym e) h

sized_alike : (d : Numbers) (m n : Meaning) → Same m n → (s : PriceSet) → Sized d m s → Sized d n s
sized_alike d m n same s z = record { system = z.system; upper = z.upper; lower = z.lower; rise = z.rise ∙ ap (λ k. k * d.periods) same.size; fall = z.fall ∙ ap (λ k. k * d.periods) same.size }

module _ (d : Numbers) (m n : Meaning) (same : Same m n) (s : PriceSet) where
  within_alike : InRange d m s → InRange d n s
  within_alike w = record {
    system = w.system;
    upper = w.upper;
    lower = w.lower;
    rise = λ i h. w.rise i (subst (λ k. i < k * d.periods) (sym same.size) h);
    fall = λ i h. w.fall i (subst (λ k. i < k * d.periods) (sym same.size) h);
  }

  refused_alike : (e : Refusal) → Refused d m s e → Refused d n s e
  refused_alike _ (unplaced e u) = unplaced e (unplaced_alike d m n same e u)
  refused_alike _ (lengths fit off) = lengths (placed_alike d m n same fit) (λ z. off (sized_alike d n m (flip m n same) s z))
  refused_alike _ (range e fit sized out) = range e (placed_alike d m n same fit) (sized_alike d m n same s sized) out

  -- a lawful plan is lawful for both, at the same cost
  undercut_alike : (f : ℤ) → Placed d m → ((p : Plan) → Lawful d m p → f ≤ℤ cost d m p) → (p : Plan) → Lawful d n p → f ≤ℤ cost d n p
  undercut_alike f placed none p lawful =
      let back = flip m n same in
      let ready : judging.Ready d n p = record { placed = placed_alike d m n same placed; sized = record { marks = lawful.marks; outputs = lawful.outputs } } in
      lower_first f (cost d m p) (cost d n p) (none p (lawful_alike d n m back p ready lawful)) (sym (costs d n m back p ready))

  module _ (facts : Facts m) (made : Made d) (placed : Placed d m) (sized : Sized d m s) (within : InRange d m s) where
    rows : (r : ℕ) → r < m.size → (m.floor r (row_prices d m s r)).0 ≡ (n.floor r (row_prices d n s r)).0
    rows r h =
        ap (λ g. g.0) (same.floor r (row_prices d m s r) h (priced d m s facts placed (moderate_of d made) sized within r h))
        ∙ ap (λ k. (n.floor r (record { net = map (net_price d s k) (periods-from 0 d.periods); rise = part d.periods r s.rise; fall = part d.periods r s.fall })).0) (same.node r h)

    floors : floor d m s ≡ floor d n s
    floors = ap (λ x. x +ℤ total d.periods (λ t. loads_pay d s t -ℤ limits_come d s t)) (total_alike m.size n.size _ _ same.size rows)

  answered_alike : Facts m → Made d → (a : Result Grains Refusal) → Answered d m s a → Answered d n s a
  answered_alike facts made (Ok f) h = record {
    placed = placed_alike d m n same h.placed;
    sized = sized_alike d m n same s h.sized;
    within = within_alike h.within;
    floor = h.floor ∙ floors facts made h.placed h.sized h.within;
    undercut_by_none = undercut_alike f.0 h.placed h.undercut_by_none;
    small = h.small;
  }
  answered_alike facts made (Err e) h = rejected d n s e (refused_alike e h.first)

pub told : (d : Numbers) (m : Meaning) (s : PriceSet) → Facts m → Made d → (a : Result Grains Refusal) → Answered d m s a → Told d m s a
told d m s facts made a h = record { answer = h; alone = λ b k. answered_alone d m s a b h k; alike = λ n same. answered_alike d m n same s facts made a h }
