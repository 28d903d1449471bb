use Rattle.std.proofs.Common.{◌≡◌, ℕ, Option, sym, ap, ◌∙◌, subst, unwrap_or, rules, tests}
use Rattle.std.proofs.lemmas.Iterator.Adapters.{YieldsList-from_rev_slice, option_map_id}
use Rattle.std.proofs.lemmas.Iterator.Consumers.{YieldsList-from_copied}
use Rattle.std.proofs.lemmas.Iterator.Search.{find_from_yields_List}
use Rattle.model.specs.Sets.{has}
use Rattle.pickers.specs.Orders.{last_in, Last}
use Rattle.pickers.specs.Perms.{last_from_back, order_last}
use Rattle.pickers.proofs.order.OrderPicker.pick.Goals as goal

pub returns : goal.returns
returns c =
    let m = c.args.question.now.remaining in
    let order = c.args.self.now.bays in
    let first = find_from_yields_List (has m) _ _ c.find.result c.find.ensures.ran (YieldsList-from_copied (YieldsList-from_rev_slice order cc)) (λ x b q k. search (rules, tests)) in
    let is : c.unwrap_or.result ≡ last_in m order 0 = c.unwrap_or.ensures ∙ ap (λ (o : Option ℕ). unwrap_or o 0) (sym (option_map_id c.find.result) ∙ first) ∙ sym (last_from_back m order c.args.self.now.each 0) in
    record { is = is; last = λ p q. subst (Last m order) (sym is) (order_last order c.args.self.now.each m p q) }
