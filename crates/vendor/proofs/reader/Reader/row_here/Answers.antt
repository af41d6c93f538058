use Rattle.std.proofs.Common.{◌≡◌, ◌+◌, None, Ok, Err, Some, MatchResult, length, rules, sym}
use Rattle.vendor.specs.declared.faults.RowFault.TheVariants.{Unended}
use Rattle.vendor.proofs.Walking.{Passed, passed_none, passed_unended, passed_cut}
use Rattle.vendor.proofs.reader.Reader.row_here.Goals as goal

none : (c : goal.Then-is_empty) → Passed c.args.self.now.file.now c.args.self.now.at (Ok None) c.args.self.now.at
none c = passed_none _ _ (sym c.if-is_empty.ensures)

pub returns-then-is_empty-clause-answer : goal.returns-then-is_empty-clause-answer
returns-then-is_empty-clause-answer c = (none c).answer

pub returns-then-is_empty-clause-rows : goal.returns-then-is_empty-clause-rows
returns-then-is_empty-clause-rows c = (none c).rows

unended : (c : goal.In_default) → Passed c.args.self.now.file.now c.args.self.now.at (Err Unended) (length c.args.self.now.file.now)
unended c = passed_unended _ _ (sym c.if-is_empty.ensures) c.in_default.ensures

pub returns-in_default-clause-answer : goal.returns-in_default-clause-answer
returns-in_default-clause-answer c = (unended c).answer

pub returns-in_default-clause-rows : goal.returns-in_default-clause-rows
returns-in_default-clause-rows c = (unended c).rows

cut : (c : goal.After-map) → Passed c.args.self.now.file.now c.args.self.now.at c.map.result (c.args.self.now.at + (c.in-Some.n + 1))
cut c =
    let is : MatchResult c.cut.result (λ row. c.map.result ≡ Ok (Some row)) (λ e. c.map.result ≡ Err e) = search rules in
    let found = c.in-Some.ensures in
    passed_cut _ _ c.in-Some.n found.0 found.1 found.2 c.cut.result c.map.result is c.cut.ensures

pub returns-clause-answer : goal.returns-clause-answer
returns-clause-answer c = (cut c).answer
