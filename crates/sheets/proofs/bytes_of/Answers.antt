use Prim.Native.Nat.{◌+◌}
use mathlib.Core.Path.{ap}
use Rattle.records.specs.Records.{head_bytes}
use Rattle.records.specs.declared.Kind.{Kind}
use Rattle.sheets.proofs.bytes_of.Goals as goal

-- `sheets::bytes_of` meets its contract. Assumes nothing.
pub returns : goal.returns
returns c = ap (λ (k : Kind). head_bytes + k.fixed) c.sheet_kind-kind.ensures
