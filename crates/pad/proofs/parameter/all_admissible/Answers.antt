use Rattle.std.proofs.Common.{◌∙◌, rules, tests}
use Rattle.std.proofs.lemmas.Iterator.{YieldsList-from_slice}
use Rattle.std.proofs.lemmas.Iterator.Consumers.{YieldsList-from_enumerate}
use Rattle.std.proofs.lemmas.Iterator.Search.{all_from_yields_List}
use Rattle.pad.proofs.ParameterLaws.{slot_admits, slots_tested}
use Rattle.pad.proofs.parameter.all_admissible.Goals as goal

pub returns : goal.returns
returns c =
    let held = c.args.values.held in
    all_from_yields_List slot_admits _ _ _ c.all.ensures.ran
    (YieldsList-from_enumerate (YieldsList-from_slice held (cc)) (cc))
    (λ x b q k. search (rules, tests))
    ∙ slots_tested c.args.values (search rules)
