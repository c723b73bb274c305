use Rattle.std.proofs.Common.{rules, tests, ◌∙◌, not, nat_eq}
use Rattle.std.proofs.lemmas.Iterator.{YieldsList-from_slice, YieldsList-from_take}
use Rattle.std.proofs.lemmas.Iterator.Consumers.{count_from_yields_List, YieldsList-at}
use Rattle.std.proofs.lemmas.Iterator.Search.{YieldsList-from_take_while}
use Rattle.lines.proofs.Counts.{tab_counted}
use Rattle.lines.proofs.count.before_tab.Goals as goal

pub returns : goal.returns
returns c =
    count_from_yields_List _ _ c.count.ensures.ran
    (YieldsList-from_take_while _ (λ x. not (nat_eq x 9)) (YieldsList-at c.take_while.ensures.source (YieldsList-from_take 5 (YieldsList-at c.take.ensures.source (YieldsList-from_slice c.args.line.now c.iter.ensures.rest)) c.take.ensures.count))
    c.take_while.ensures.closure c.take_while.ensures.done (λ x b q k. search (rules, tests)))
    ∙ tab_counted 5 c.args.line.now
