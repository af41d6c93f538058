-- One answer alone tells what is so of a plan. Assumes nothing.
use Rattle.std.proofs.Common.{◌≡◌, ℕ, ◌+◌, ◌<◌, Ok, Err, Result, sym, refl, ap, ◌∙◌, ⊎_elim, arith}
use Rattle.std.proofs.lemmas.Bool.{cases_order}
use Rattle.measures.specs.Amounts.{grains}
use Rattle.measures.specs.declared.Grains.{Grains}
use Rattle.market.specs.declared.broken.Broken.{Broken}
use Rattle.market.specs.declared.refusal.Refusal.{Refusal}
use Rattle.market.specs.declared.refusal.Refusal.TheVariants.{Node, Row, Balance, Upper, Lower}
use Rattle.market.specs.Clearing.{Plan, RowsKept, Balanced, LinesKept, Cleared, UnderUpper, OverLower, BreaksFirst, row_rule, balance, upper_limit, lower_limit, row}
use Rattle.market.specs.Days.{Numbers}
use Rattle.market.specs.Fleet.{Meaning}
use Rattle.market.specs.Judging.{Refused, unplaced, lengths, broken, Answered, SmallTold, Told}
use Rattle.market.specs.Placing.{Unplaced, sizes}
use Rattle.market.specs.Placing as Placing
use Rattle.market.proofs.Alike.{answered_alike}
use Rattle.market.proofs.Rejecting.{not_both, unplaced_not_placed}

pub unplaced_alone : (d : Numbers) (m : Meaning) (e f : Refusal) → Unplaced d m e → Unplaced d m f → e ≡ f
unplaced_alone d m _ _ (sizes off) (sizes out) = refl
unplaced_alone d m _ _ (sizes off) (Placing.row r fit out) = absurd (off fit)
unplaced_alone d m _ _ (Placing.row r fit out) (sizes off) = absurd (off fit)
unplaced_alone d m _ _ (Placing.row r fit out) (Placing.row k fits off) =
    ⊎_elim (λ e. ap (λ r. Node r) e)
    (⊎_elim (λ l. absurd (omega (arith, off.before r l, out.out))) (λ l. absurd (omega (arith, out.before k l, off.out)))) (cases_order r k)

module _ (d : Numbers) (m : Meaning) (p : Plan) where
  -- the first rule that is broken in period t
  data BreaksIn (t : ℕ) : Refusal → Type 0 where
    unbalanced : (Balanced d m p t → ⊥) → BreaksIn t (Balance (t + 1))
    over : (l : ℕ) → l < d.lines → Balanced d m p t → LinesKept d m p t l → (UnderUpper d m p t l → ⊥) → BreaksIn t (Upper l (t + 1))
    under : (l : ℕ) → l < d.lines → Balanced d m p t → LinesKept d m p t l → UnderUpper d m p t l → (OverLower d m p t l → ⊥) → BreaksIn t (Lower l (t + 1))

  -- a period that breaks a rule is not clear
  not_clear : (t : ℕ) (e : Refusal) → BreaksIn t e → Balanced d m p t → LinesKept d m p t d.lines → ⊥
  not_clear t _ (unbalanced off) even kept = off even
  not_clear t _ (over l lt b before off) even kept = off (kept l lt).0
  not_clear t _ (under l lt b before up off) even kept = off (kept l lt).1

  -- the first line that is broken is one, and so is the first rule of a period
  in_alone : (t : ℕ) (e f : Refusal) → BreaksIn t e → BreaksIn t f → e ≡ f
  in_alone t _ _ (unbalanced off) (unbalanced out) = refl
  in_alone t _ _ (unbalanced off) (over l lt even kept out) = absurd (off even)
  in_alone t _ _ (unbalanced off) (under l lt even kept up out) = absurd (off even)
  in_alone t _ _ (over l lt even kept off) (unbalanced out) = absurd (out even)
  in_alone t _ _ (under l lt even kept up off) (unbalanced out) = absurd (out even)
  in_alone t _ _ (over l lt even kept off) (over k kt also held out) =
      ⊎_elim (λ e. ap (λ l. Upper l (t + 1)) e) (⊎_elim (λ s. absurd (off (held l s).0)) (λ s. absurd (out (kept k s).0))) (cases_order l k)
  in_alone t _ _ (over l lt even kept off) (under k kt also held up out) =
      ⊎_elim (λ e. absurd (off (subst_under (sym e) up))) (⊎_elim (λ s. absurd (off (held l s).0)) (λ s. absurd (out (kept k s).1))) (cases_order l k)
    where
      subst_under : {i j : ℕ} → i ≡ j → UnderUpper d m p t i → UnderUpper d m p t j
      subst_under e h = rw (sym e) h
  in_alone t _ _ (under l lt even kept up off) (over k kt also held out) =
      ⊎_elim (λ e. absurd (out (subst_under e up))) (⊎_elim (λ s. absurd (off (held l s).1)) (λ s. absurd (out (kept k s).0))) (cases_order l k)
    where
      subst_under : {i j : ℕ} → i ≡ j → UnderUpper d m p t i → UnderUpper d m p t j
      subst_under e h = rw (sym e) h
  in_alone t _ _ (under l lt even kept up off) (under k kt also held up' out) =
      ⊎_elim (λ e. ap (λ l. Lower l (t + 1)) e) (⊎_elim (λ s. absurd (off (held l s).1)) (λ s. absurd (out (kept k s).1))) (cases_order l k)

  -- where the first broken rule stands: in a row, or in a period
  data BreaksAt : Refusal → Type 0 where
    in_row : (r : ℕ) (e : Broken) → r < m.size → RowsKept d m p r → m.verdict r (row d p r) ≡ Err e → BreaksAt (Row r e)
    in_period : (t : ℕ) (e : Refusal) → t < d.periods → RowsKept d m p m.size → Cleared d m p t → BreaksIn t e → BreaksAt e

  breaks_at : (e : Refusal) → BreaksFirst d m p e → BreaksAt e
  breaks_at _ (row_rule r e lt kept is) = in_row r e lt kept is
  breaks_at _ (balance t on rows before off) = in_period t _ on rows before (unbalanced off)
  breaks_at _ (upper_limit t l on lt rows before even kept off) = in_period t _ on rows before (over l lt even kept off)
  breaks_at _ (lower_limit t l on lt rows before even kept up off) = in_period t _ on rows before (under l lt even kept up off)

  in_period_alone : (s t : ℕ) (e f : Refusal) → s ≡ t → BreaksIn s e → BreaksIn t f → e ≡ f
  in_period_alone s t e f same a b = in_alone t e f (rw (sym same) a) b

  same_row : (r k : ℕ) (e f : Broken) → r ≡ k → m.verdict r (row d p r) ≡ Err e → m.verdict k (row d p k) ≡ Err f → Row r e ≡ Row k f
  same_row r k e f i is so =
      let both : m.verdict r (row d p r) ≡ Err f = ap (λ r. m.verdict r (row d p r)) i ∙ so in
      let one : e ≡ f = cc in
      λ j. Row (i j) (one j)

  at_alone : (e f : Refusal) → BreaksAt e → BreaksAt f → e ≡ f
  at_alone _ _ (in_row r e lt kept is) (in_row k f kt held so) =
      ⊎_elim (λ i. same_row r k e f i is so)
      (⊎_elim (λ s. absurd (not_both _ e (held r s) is)) (λ s. absurd (not_both _ f (kept k s) so))) (cases_order r k)
  at_alone _ _ (in_row r e lt kept is) (in_period t f on rows before b) = absurd (not_both _ e (rows r lt) is)
  at_alone _ _ (in_period t e on rows before b) (in_row r f lt kept is) = absurd (not_both _ f (rows r lt) is)
  at_alone _ _ (in_period s e on rows before a) (in_period t f to lines after b) =
      ⊎_elim (λ i. in_period_alone s t e f i a b)
      (⊎_elim (λ l. absurd (not_clear s e a (after s l).0 (after s l).1)) (λ l. absurd (not_clear t f b (before t l).0 (before t l).1))) (cases_order s t)

  refused_alone : (e f : Refusal) → Refused d m p e → Refused d m p f → e ≡ f
  refused_alone _ _ (unplaced e u) (unplaced f v) = unplaced_alone d m e f u v
  refused_alone _ _ (unplaced e u) (lengths fit off) = absurd (unplaced_not_placed d m e u fit)
  refused_alone _ _ (unplaced e u) (broken f ready b) = absurd (unplaced_not_placed d m e u ready.placed)
  refused_alone _ _ (lengths fit off) (unplaced f v) = absurd (unplaced_not_placed d m f v fit)
  refused_alone _ _ (broken e ready b) (unplaced f v) = absurd (unplaced_not_placed d m f v ready.placed)
  refused_alone _ _ (lengths fit off) (lengths fits out) = refl
  refused_alone _ _ (lengths fit off) (broken f ready b) = absurd (off ready.sized)
  refused_alone _ _ (broken e ready b) (lengths fit off) = absurd (off ready.sized)
  refused_alone _ _ (broken e ready b) (broken f again c) = at_alone e f (breaks_at e b) (breaks_at f c)

  answered_alone : (a b : Result Grains Refusal) → Answered d m p a → Answered d m p b → b ≡ a
  answered_alone (Ok x) (Ok y) h k = ap (λ z. Ok (grains z)) (k.2 ∙ sym h.2)
  answered_alone (Ok x) (Err f) h k = absurd (k.rightly h.0 h.1)
  answered_alone (Err e) (Ok y) h k = absurd (h.rightly k.0 k.1)
  answered_alone (Err e) (Err f) h k = ap Err (refused_alone f e k.first h.first)

  pub told : (a : Result Grains Refusal) → Answered d m p a → SmallTold a → Told d m p a
  told a h s = record { answer = h; small = s; alone = λ b k. answered_alone a b h k; alike = λ n same. answered_alike d m n same p a h }
