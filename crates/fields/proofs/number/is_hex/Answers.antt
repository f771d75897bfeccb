use Rattle.std.proofs.Common.{◌∙◌, ltb, rules, tests}
use Rattle.std.proofs.lemmas.Iterator.{YieldsList-from_slice}
use Rattle.std.proofs.lemmas.Iterator.Search.{all_from_yields_List}
use Rattle.fields.specs.Number.{digit_of}
use Rattle.fields.proofs.Digits.{hex_all}
use Rattle.fields.proofs.number.is_hex.Goals as goal

pub returns : goal.returns
returns c =
    all_from_yields_List (λ b. ltb (digit_of b) 16) _ _ _ c.all.ensures.ran (YieldsList-from_slice c.args.t.now cc) (λ x b q k. search (rules, tests))
    ∙ hex_all c.args.t.now
