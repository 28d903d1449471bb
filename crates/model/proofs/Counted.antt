-- A forecast counts the states that its course leads to.
use Rattle.std.proofs.Common.{◌≡◌, ℕ, suc, ◌+◌, ◌*◌, ◌<◌, ◌≤◌, Bool, true, false, cond, List, [], ◌∷◌, length, sym, refl, ap, ◌∙◌, mul_assoc, mul_comm, one-mul, mul-one, mul-add, le-mul_of_pos_right, arith}
use Rattle.model.specs.Claims.{states, ForecastCounts}
use Rattle.model.specs.Course.{Line, forecast}
use Rattle.model.specs.Lists.{Each}

ways : Line → ℕ
ways l = cond l.fold 1 l.tries

forecast_step : (l : Line) (ls : List Line) → forecast (l ∷ ls) ≡ 1 + ways l * forecast ls
unfolding ways
forecast_step l ls = go l.fold
  where
    go : (t : Bool) → cond t (1 + forecast ls) (1 + l.tries * forecast ls) ≡ 1 + cond t 1 l.tries * forecast ls
    go true = ap (λ (n : ℕ). 1 + n) (sym (one-mul (forecast ls)))
    go false = refl

spread : (w : ℕ) (ls : List Line) → states w ls ≡ w * forecast ls
unfolding ways
spread w [] = sym (mul-one w)
spread w (l ∷ ls) =
    ap (λ (n : ℕ). w + n) (spread (w * ways l) ls ∙ mul_assoc w (ways l) (forecast ls))
    ∙ sym (ap (λ (n : ℕ). w * n) (forecast_step l ls) ∙ mul-add w 1 (ways l * forecast ls) ∙ ap (λ (n : ℕ). n + w * (ways l * forecast ls)) (mul-one w))

above : (ls : List Line) → Each (λ l. 1 ≤ l.tries) ls → length ls < forecast ls
above [] h = omega arith
above (l ∷ ls) h = go l.fold (above ls h.1)
  where
    go : (t : Bool) → length ls < forecast ls → suc (length ls) < cond t (1 + forecast ls) (1 + l.tries * forecast ls)
    go true k = omega arith
    go false k = omega (arith, le-mul_of_pos_right {m = l.tries} (forecast ls) h.0, mul_comm l.tries (forecast ls))

pub forecast_counts : ForecastCounts
forecast_counts ls = record { counts = sym (spread 1 ls ∙ one-mul (forecast ls)); above = above ls }
