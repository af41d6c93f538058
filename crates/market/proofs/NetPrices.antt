-- Net prices: sums over the lines, and how large they become. Assumes nothing.
use Rattle.std.proofs.Common.{◌≡◌, ℕ, ◌+◌, ◌*◌, ◌<◌, ◌≤◌, length, ℤ, pos, ◌+ℤ◌, ◌-ℤ◌, ◌*ℤ◌, sym, ap, ◌∙◌, arith}
use Rattle.std.proofs.lemmas.Int.{ints}
use Rattle.market.specs.Bounding.{LinesPriced}
use Rattle.market.specs.Clearing.{PriceSet, Moderate, factor, net_price}
use Rattle.market.specs.Days.{Numbers, Made}
use Rattle.market.specs.Scans.{at, Within, UpTo}
use Rattle.market.specs.Totals.{total}
use Rattle.market.proofs.Cells.{place_below}
use Rattle.market.proofs.Ints.{times_within}
use Rattle.market.proofs.Totals.{total_more, total_within}

pub difference_within : (n : ℕ) (u w : ℤ) → UpTo n u → UpTo n w → Within n (u -ℤ w)
difference_within n u w h k = (omega (arith, ints), omega (arith, ints))

joined : (n : ℕ) (r x : ℤ) → Within 1000000 r → Within (n * 1000000000) x → Within ((n + 1) * 1000000000) ((pos 1000 *ℤ r) -ℤ x)
joined n r x h k = (omega (arith, ints), omega (arith, ints))

few : (n : ℕ) (x : ℤ) → n ≤ 16 → Within ((n + 1) * 1000000000) x → Within 17000000000 x
few n x l h = (omega (arith, ints), omega (arith, ints))

-- the parts of a net price, for one more line
stepped : (a x t y : ℤ) → y ≡ x -ℤ t → y -ℤ a ≡ x -ℤ (t +ℤ a)
stepped a x t y e = omega (arith, ints)

minus_none : (x : ℤ) → x ≡ x -ℤ pos 0
minus_none x = omega (arith, ints)

pub moderate_of : (d : Numbers) → Made d → Moderate d
moderate_of d made = record { lines = made.shape.lines; factors = λ i h. made.factors i (omega (arith, made.lengths.factors)) }

module _ (d : Numbers) (s : PriceSet) where
  -- the difference of the prices of line l's two limits in period t, and what it takes of the price at node k
  abbrev pub line_price : ℕ → ℕ → ℤ
  line_price t l = at s.upper (l * d.periods + t) -ℤ at s.lower (l * d.periods + t)

  abbrev pub taken : ℕ → ℕ → ℕ → ℤ
  taken k t l = line_price t l *ℤ factor d l k

  -- the net price by the lines before l
  abbrev pub net_before : ℕ → ℕ → ℕ → ℤ
  net_before k t l = (pos 1000 *ℤ at s.system t) -ℤ total l (taken k t)

  pub net_none : (k t : ℕ) (y r : ℤ) → y ≡ pos 1000 *ℤ r → r ≡ at s.system t → y ≡ net_before k t 0
  net_none k t y r e f = e ∙ ap (λ z. pos 1000 *ℤ z) f ∙ minus_none (pos 1000 *ℤ at s.system t)

  pub net_more : (k t l : ℕ) (y : ℤ) → y ≡ net_before k t l → y -ℤ taken k t l ≡ net_before k t (l + 1)
  net_more k t l y e = stepped (taken k t l) _ (total l (taken k t)) y e ∙ ap (λ x. (pos 1000 *ℤ at s.system t) -ℤ x) (sym (total_more l (taken k t)))

  module _ (moderate : Moderate d) (system : (t : ℕ) → t < d.periods → Within 1000000 (at s.system t))
      (upper : (i : ℕ) → i < d.lines * d.periods → UpTo 1000000 (at s.upper i)) (lower : (i : ℕ) → i < d.lines * d.periods → UpTo 1000000 (at s.lower i)) where
    pub line_price_within : (t l : ℕ) → t < d.periods → l < d.lines → Within 1000000 (line_price t l)
    line_price_within t l ht hl =
        let i = place_below l d.lines d.periods t hl ht in
        difference_within 1000000 (at s.upper (l * d.periods + t)) (at s.lower (l * d.periods + t)) (upper (l * d.periods + t) i) (lower (l * d.periods + t) i)

    pub taken_within : (k t l : ℕ) → k < d.nodes → t < d.periods → l < d.lines → Within 1000000000 (taken k t l)
    taken_within k t l hk ht hl =
        times_within (line_price t l) (factor d l k) 1000000 1000 (line_price_within t l ht hl)
        (moderate.factors (l * d.nodes + k) (place_below l d.lines d.nodes k hl hk))

    pub net_before_within : (k t l : ℕ) → k < d.nodes → t < d.periods → l ≤ d.lines → Within ((l + 1) * 1000000000) (net_before k t l)
    net_before_within k t l hk ht hl =
        joined l (at s.system t) (total l (taken k t)) (system t ht) (total_within l 1000000000 (taken k t) (λ i h. taken_within k t i hk ht (omega arith)))

    pub net_within : (k t : ℕ) → k < d.nodes → t < d.periods → Within 17000000000 (net_price d s k t)
    net_within k t hk ht = few d.lines (net_price d s k t) moderate.lines (net_before_within k t d.lines hk ht (omega arith))

  -- the same, where lengths and ranges have been asked
  module _ (made : Made d) (priced : LinesPriced d s) where
    system_in : (t : ℕ) → t < d.periods → Within 1000000 (at s.system t)
    system_in t h = priced.system t (omega (arith, priced.system_cells))

    upper_in : (i : ℕ) → i < d.lines * d.periods → UpTo 1000000 (at s.upper i)
    upper_in i h = priced.upper i (omega (arith, priced.upper_cells))

    lower_in : (i : ℕ) → i < d.lines * d.periods → UpTo 1000000 (at s.lower i)
    lower_in i h = priced.lower i (omega (arith, priced.lower_cells))

    pub cell_below : (t l n : ℕ) → n ≡ d.lines * d.periods → t < d.periods → l < d.lines → l * d.periods + t < n
    cell_below t l n e ht hl = omega (arith, place_below l d.lines d.periods t hl ht)

    pub share_below : (k l : ℕ) → k < d.nodes → l < d.lines → l * d.nodes + k < length d.factors
    share_below k l hk hl = omega (arith, place_below l d.lines d.nodes k hl hk, made.lengths.factors)

    pub line_price_small : (t l : ℕ) → t < d.periods → l < d.lines → Within 1000000 (line_price t l)
    line_price_small = line_price_within (moderate_of d made) system_in upper_in lower_in

    pub taken_small : (k t l : ℕ) → k < d.nodes → t < d.periods → l < d.lines → Within 1000000000 (taken k t l)
    taken_small = taken_within (moderate_of d made) system_in upper_in lower_in

    pub net_before_small : (k t l : ℕ) → k < d.nodes → t < d.periods → l ≤ d.lines → Within 17000000000 (net_before k t l)
    net_before_small k t l hk ht hl = few l (net_before k t l) (omega (arith, made.shape.lines)) (net_before_within (moderate_of d made) system_in upper_in lower_in k t l hk ht hl)
