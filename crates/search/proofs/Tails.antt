use borrow.Rule.Slice.PartMut.{put_mid, mid_of, set_mid_at, mid_len}
use Rattle.std.proofs.Common.{◌≡◌, ℕ, ◌-◌, ◌<◌, List, length, set, ap, ◌∙◌, add-zero, arith}

-- a cell stored at the front of `&mut xs[a..]`
pub tail_set : {X : Type 0} (a : ℕ) (xs ys : List X) (v : X) → a < length xs → ys ≡ set (mid_of a (length xs - a) xs) 0 v → put_mid a (length xs - a) xs ys ≡ set xs a v
tail_set {X} a xs ys v h e =
    ap (put_mid a (length xs - a) xs) e ∙ set_mid_at a (length xs - a) 0 xs v (omega (arith, mid_len a (length xs) xs (omega arith))) ∙ ap (λ (n : ℕ). set xs n v) (add-zero a)
