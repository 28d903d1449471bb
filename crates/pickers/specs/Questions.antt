-- What a picker is asked.
use Rattle.std.specs.Prelude.{◌≡◌, ℕ, true, false, cond, List, map, ℤ, bit_and, slice_index}
use Rattle.std.specs.List.{range_with_len}
use Rattle.model.specs.Sets.{has, one, minus}
use Rattle.pickers.specs.declared.question.Question.{Question}

-- the neighbours of a bay among those that remain; none if it does not remain itself
abbrev pub seen : ℕ → ℕ → ℕ → ℕ
seen m near b = cond (has m b) (minus (bit_and near m) (one b)) 0

-- a bay's choices; none if it does not remain
abbrev pub kept : ℕ → ℕ → ℕ → ℕ
kept m n b = cond (has m b) n 0

abbrev pub asked : ℕ → List ℕ → List ℕ → ℤ → Question
asked m ns cs k = record {
  remaining = m;
  neighbours = map (λ b. seen m (slice_index ns b) b) (range_with_len 0 24);
  choices = map (λ b. kept m (slice_index cs b) b) (range_with_len 0 24);
  k = k;
}

-- nothing is said of a bay that does not remain, and a neighbour is another bay that remains
pub record Canonical (q : Question) : Type 0 where
  pub no_neighbours : (b : ℕ) → has q.remaining b ≡ false → slice_index q.neighbours b ≡ 0
  pub no_choices : (b : ℕ) → has q.remaining b ≡ false → slice_index q.choices b ≡ 0
  pub remains : (b i : ℕ) → has (slice_index q.neighbours b) i ≡ true → has q.remaining i ≡ true
  pub other : (b : ℕ) → has (slice_index q.neighbours b) b ≡ false
