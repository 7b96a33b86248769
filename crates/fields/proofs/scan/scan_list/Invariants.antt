use Rattle.std.proofs.Common.{◌≡◌, ◌≤◌, drop}
use Rattle.fields.specs.Inner.Scans.{begun, scanned}
use Rattle.fields.proofs.scan.scan_list.Given as goal

abbrev pub invariant-loop-said : goal.invariant-loop-said
invariant-loop-said l =
    (l.scan.count ≤ l.said-index) × (scanned l.scan (drop l.said-index l.list) l.attrs ≡ scanned begun l.list l.attrs)
