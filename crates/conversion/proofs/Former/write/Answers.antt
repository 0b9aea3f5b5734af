-- The page is the converted sheet, part behind part, and is handed out. It is no longer than a sheet may be, so that
-- there is room for each part. Assumes nothing.
use mathlib.Core.Path.{◌≡◌, ◌∙◌, ap}
use mathlib.Core.List.{List}
use Prim.Native.Nat.{ℕ, ◌+◌, ◌≤◌}
use native.Mathlib.Omega.{arith}
use lib.ListN.{length, length-append, drop}
use denote.Bor.{Bor}
use Rattle.std.specs.Prelude.{Option, Some, None}
use Rattle.std.specs.Iterator.{YieldsFirstRef}
use Rattle.sheet.specs.Reading.{longest}
use Rattle.conversion.specs.FormerRules.{heading_line}
use Rattle.conversion.specs.Rows.{lines_of}
use Rattle.conversion.specs.Converted.{heading, converted}
use Rattle.conversion.proofs.Assembled.{front, rest, converted-is, length-converted}
use Rattle.conversion.proofs.Accepted.{converted-short}
use Rattle.conversion.proofs.Former.write.Goals.{Start, After-push_lines, After-next}
use Rattle.conversion.proofs.Former.write.Goals as goal

-- what is left once the next line is taken, where there is one
left_behind : (r : Option (Bor (List ℕ))) (old new : List (List ℕ)) → YieldsFirstRef (λ ls. ls) old r new
    → new ≡ drop 1 old
left_behind None old new e = rw (e.0, e.1)
left_behind (Some l) old new e = rw e

-- how long the parts are together, at most
long : (d : Start)
    → let self = d.args.self.now in
    length (front self.sheet.now self.formed.network) + length (heading self.rules)
    + length (rest self.sheet.now self.formed.network) ≤ longest
long d =
    let self = d.args.self.now in
    let short = converted-short self.sheet.now self.formed.network self.accepted (rw self.counted at d.requires) in
    let row = ap (λ n. length (heading n)) self.counted in
    omega (arith, length-converted self.sheet.now self.formed.network, short, row)

-- what stands before the heading is written
before : (d : After-push_lines)
    → d.push_lines.new.page ≡ front d.args.self.now.sheet.now d.args.self.now.formed.network
before d = rw (d.new-page.ensures, d.of-left.ensures) at d.push_lines.ensures.0

-- the lines behind the heading are left
behind : (d : After-next)
    → d.next.new.self ≡ drop 1 (drop (heading_line d.args.self.now.formed.network) (lines_of d.args.self.now.sheet.now))
behind d =
    left_behind d.next.result d.push_lines.new.left d.next.new.self d.next.ensures.steps
    ∙ ap (drop 1) (rw d.of-left.ensures at d.push_lines.ensures.1)

pub push_lines-requires : goal.push_lines-requires
push_lines-requires c =
    let d = (goal.at.push_lines-requires c).Start in
    rw (c.new-page.ensures, c.of-left.ensures) (omega (arith, long d))

pub push_heading-requires : goal.push_heading-requires
push_heading-requires c =
    let d = goal.at.push_heading-requires c in
    omega (arith, long d.Start, ap length (before d.After-push_lines))

pub push_rest-requires : goal.push_rest-requires
push_rest-requires c =
    let d = goal.at.push_rest-requires c in
    let page = ap length c.push_heading.ensures ∙ length-append c.push_lines.new.page (heading c.args.self.now.rules) in
    rw (behind d.After-next) (omega (arith, long d.Start, ap length (before d.After-push_lines), page))

pub returns : goal.returns
returns c =
    let d = goal.at.returns c in
    let self = c.args.self.now in
    let whole : c.push_rest.new.page ≡ converted self.sheet.now self.formed.network =
    rw (c.push_rest.ensures, c.push_heading.ensures, before d.After-push_lines, behind d.After-next, self.counted)
    (converted-is self.sheet.now self.formed.network) in
    rw whole at c.hand_out.ensures
