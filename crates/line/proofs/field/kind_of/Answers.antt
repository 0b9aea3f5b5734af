-- A field of another length than three is no kind. Assumes nothing.
use native.Mathlib.Omega.{arith}
use Rattle.line.proofs.RuleRefusals.{no_kind}
use Rattle.line.proofs.field.kind_of.Goals as goal

pub returns-in_default : goal.returns-in_default
returns-in_default c = rw (no_kind c.args.f.now (λ e. omega (arith, c.in_default.len_below)))

pub returns-in_default-8 : goal.returns-in_default-8
returns-in_default-8 c = rw (no_kind c.args.f.now (λ e. omega (arith, c.in_default.len_at_least)))
