use Rattle.std.proofs.Common.{◌≡◌, ℕ, ◌*◌, ◌+◌, ◌<◌, ◌≤◌, List, length, ℤ, drop, sym, ap, ◌∙◌, subst, ⊎_elim, arith, below_more, rules}
use Rattle.std.proofs.lemmas.Result.{err_from_is_err_and}
use Rattle.std.specs.Iterator.Adapters.{enumerate_source, zip_first, zip_second}
use Rattle.std.specs.Slice.Iter.{iter_rest, chunks_exact_rest}
use Rattle.kinds.specs.declared.table_fault.TableFault.{TableFault}
use Rattle.kinds.specs.Renewables.{Table, table, curve, power, no_station, RowFits, RowRefused, RowsFit, no_row}
use Rattle.kinds.specs.declared.curve_numbers.CurveNumbers.{CurveNumbers}
use Rattle.kinds.proofs.Turns.{front, spent, front_part, spent_parts}
use Rattle.fleets.proofs.renewables.making.no_row.Goals as goal
use Rattle.fleets.proofs.renewables.making.no_row.Goals.{In-Some}

abbrev rows : In-Some → Table
rows c = table c.args.periods c.args.stations.now c.args.available.now

-- this turn's row
record Turn (c : In-Some) : Type 0 where
  within : c.loop-row.row-iterator.count < length c.args.stations.now
  curve : c.in-Some.station.now.curve ≡ curve (rows c) c.loop-row.row-iterator.count
  power : c.in-Some.power.now ≡ power (rows c) c.loop-row.row-iterator.count
  stations : iter_rest (zip_first (enumerate_source c.next.new.self)) ≡ drop (c.loop-row.row-iterator.count + 1) c.args.stations.now
  available : chunks_exact_rest (zip_second (enumerate_source c.next.new.self)) ≡ drop ((c.loop-row.row-iterator.count + 1) * c.args.periods) c.args.available.now

turn : (c : In-Some) → Turn c
turn c =
    let i = c.loop-row.invariant in
    let s = c.in-Some.ensures.steps in
    let f = front c.args.stations.now c.loop-row.row-iterator.count c.in-Some.station.now _ _ i.stations s.0.0 in
    let p = front_part c.args.available.now c.args.periods c.loop-row.row-iterator.count c.in-Some.power.now _ _ i.available s.0.1.1.0 (s.0.1.1.1 ∙ i.size) in
    record { within = f.within; curve = ap (λ x. x.curve) (f.at no_station); power = p.0; stations = f.left; available = p.1 }

-- a row's fault, and a row that has none, as the table has them
fault_of : (f : Table) (r n : ℕ) (c : CurveNumbers) (p : List ℤ) (e : TableFault) → n ≡ r → c ≡ curve f r → p ≡ power f r → RowRefused c p n e → RowRefused (curve f r) (power f r) r e
fault_of f r n c p e a b d h = subst (λ k. RowRefused (curve f r) (power f r) k e) a (subst (λ x. RowRefused (curve f r) x n e) d (subst (λ x. RowRefused x p n e) b h))

fits_of : (f : Table) (r : ℕ) (c : CurveNumbers) (p : List ℤ) → c ≡ curve f r → p ≡ power f r → RowFits c p → RowFits (curve f r) (power f r)
fits_of f r c p b d h = subst (λ x. RowFits (curve f r) x) d (subst (λ x. RowFits x p) b h)

pub returns-in_err-row_no : goal.returns-in_err-row_no
returns-in_err-row_no c =
    let i = (goal.at.returns-in_err-row_no c).In-Some in
    let t = turn i in
    let p = err_from_is_err_and c.from_residual.result c.from_residual.ensures.1 in
    rw (p.1, p.2) (no_row c.loop-row.row-iterator.count _ t.within c.loop-row.invariant.fit (fault_of (rows i) _ _ _ _ _ c.in-Some.ensures.steps.1 t.curve t.power c.in_err-row_no.ensures))

pub loop-row-preserved : goal.loop-row-preserved
loop-row-preserved c =
    let now = (goal.at.loop-row-preserved c).In-Some in
    let t = turn now in
    let i = c.loop-row.invariant in
    let s = c.in-Some.ensures.steps in
    record {
      can = search rules;
      ends = search rules;
      stations = t.stations ∙ ap (λ n. drop n c.args.stations.now) (sym s.2);
      available = t.available ∙ ap (λ n. drop (n * c.args.periods) c.args.available.now) (sym s.2);
      size = s.0.1.0 ∙ i.size;
      fit = subst (RowsFit (rows now)) (sym s.2) (below_more _ _ i.fit (fits_of (rows now) c.loop-row.row-iterator.count _ _ t.curve t.power c.in_ok-row_no.ensures));
    }

pub returns : goal.returns
returns c =
    let i = c.loop-row.invariant in
    let e = c.in-None.ensures.steps.0 in
    let done : length c.args.stations.now ≤ c.loop-row.row-iterator.count =
    ⊎_elim (λ u. spent c.args.stations.now _ _ i.stations u.1.0) (λ u. spent_parts c.args.available.now c.args.periods _ _ _ c.requires.lengths.all i.available (omega (arith, u.1.1.0, i.size))) e
    in
    λ k h. i.fit k (omega arith)
