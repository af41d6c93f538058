use Rattle.std.proofs.Common.{◌≡◌, take}
use Rattle.std.specs.Str.Parse.{digits_value}
use Rattle.vendor.proofs.Decimals.{DigitsBelow}
use Rattle.vendor.proofs.numbers.value.Given as goal

abbrev pub invariant-loop-b : goal.invariant-loop-b
invariant-loop-b l = DigitsBelow l.digits l.b-index × (l.value ≡ digits_value 10 (take l.b-index l.digits))
