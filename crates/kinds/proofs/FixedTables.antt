-- The questions of a table of fixed schedules, by a test and by what they mean. Assumes nothing.
use Rattle.std.proofs.Common.{◌≡◌, ℕ, ◌+◌, ◌/◌, ◌%◌, true, length, pos, neg_ℤ, sym, subst, mod-lt, div-add-mod'}
use Rattle.std.proofs.lemmas.Bool.{and_parts, and_from}
use Rattle.market.specs.Scans.{FirstOut}
use Rattle.market.proofs.Scanning.{decides_all}
use Rattle.kinds.specs.declared.table_fault.TableFault.TheVariants.{Cell}
use Rattle.kinds.specs.Fixed.{Table, Made, Fits, Refused, row_output, ShapeFits, OutputsFit, made_test}
use Rattle.kinds.specs.Tables.{shape_test}
use Rattle.kinds.proofs.Shapes.{decides_shape}

module _ (f : Table) where
  pub made_so : made_test f ≡ true → Made f
  made_so e =
      let p = and_parts (shape_test f.periods (length f.nodes) (length f.outputs)) _ e in
      record { shape = (decides_shape f.periods (length f.nodes) (length f.outputs)).0 p.0; outputs = (decides_all _ _ f.outputs).0 p.1 }

  pub fits : ShapeFits f → OutputsFit f (length f.outputs) → Fits f
  fits shape outputs = record {
    test = and_from (shape_test f.periods (length f.nodes) (length f.outputs)) _ ((decides_shape f.periods (length f.nodes) (length f.outputs)).1 shape) ((decides_all _ _ f.outputs).1 outputs);
    made = record { shape = shape; outputs = outputs };
  }

  -- a cell by its row and its period
  pub refused_output : ShapeFits f → (i : ℕ) → FirstOut (neg_ℤ (pos 20000)) (pos 20000) f.outputs i → Refused f (Cell (i / f.periods) (i % f.periods + 1))
  refused_output h i out =
      row_output h (i / f.periods) (i % f.periods) (mod-lt i h.day.0) (subst (FirstOut _ _ f.outputs) (sym (div-add-mod' i f.periods)) out)
