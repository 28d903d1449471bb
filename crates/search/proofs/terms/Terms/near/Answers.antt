use Rattle.std.proofs.Common.{◌≡◌, ℕ, ◌^◌, Bool, not, ◌&&◌, eqb, ap, ◌∙◌, ap₂}
use lib.Bits.{bit_and}
use Rattle.model.proofs.Bits.{has_and, has_minus, has_one}
use Rattle.model.proofs.Kept.{turn}
use Rattle.model.specs.Sets.{has}
use Rattle.search.proofs.Flags.{near_bool}
use Rattle.search.specs.Force.{shares}
use Rattle.search.specs.Visit.{is_near}
use Rattle.search.proofs.terms.Terms.near.Goals as goal

pub returns : goal.returns
returns g c = record { has_is = is }
  where
    is : (i : ℕ) → has c.without.result i ≡ is_near (g.B.Book.meaning c.args.self.now.book.now) c.args.self.now.lines.now c.args.force.now c.args.remaining c.args.bay i
    is i =
        let all = bit_and c.touched.result c.args.remaining in
        let b = c.args.bay in
        let t = shares (g.B.Book.meaning c.args.self.now.book.now) c.args.self.now.lines.now c.args.force.now b 0 i in
        ap (λ (x : ℕ). has x i) c.without.ensures ∙ has_minus all (2 ^ b) i
        ∙ ap₂ (λ (x y : Bool). x && not y) (has_and c.touched.result c.args.remaining i ∙ ap (λ (x : Bool). x && has c.args.remaining i) (c.touched.ensures i)) (has_one b i ∙ turn b i)
        ∙ near_bool t (has c.args.remaining i) (eqb i b)
