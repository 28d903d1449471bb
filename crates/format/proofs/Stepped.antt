-- Reading by the description is reading step by step.
use Rattle.std.proofs.Common.{◌≡◌, ℕ, zero, suc, ◌+◌, ◌-◌, List, ◌∷◌, length, get_or, refl, ap, ◌∙◌}
use Rattle.format.specs.Pieces.{Got, got, bad, Piece, Form, done, piece, bind, one, many, and_then, piece_in, run}
use Rattle.format.specs.House.{Layout, cells_in, mark_piece, version_piece, count_piece, cell_piece, cells_form, rule_form, rules_form, prices_form, bays_form, body_form, book_form}
use Rattle.format.specs.Steps.{mapped, chain, times, cell_of, count_of, rising, rule_in, prices_in, body_in, head_in}

then_same : {A B : Type 0} (g : Got A) (k h : A → List ℕ → Got B) → ((a : A) (r : List ℕ) → k a r ≡ h a r) → and_then g k ≡ and_then g h
then_same (bad e) k h s = refl
then_same (got a r) k h s = s a r

then_then : {A B C : Type 0} (g : Got A) (k : A → List ℕ → Got B) (h : B → List ℕ → Got C) → and_then g (λ a r. and_then (k a r) h) ≡ and_then (and_then g k) h
then_then (bad e) k h = refl
then_then (got a r) k h = refl

module _ {A B : Type 0} where
  mapped_then : (f : A → B) (g : Got A) → and_then g (λ a r. got (f a) r) ≡ mapped f g
  mapped_then f (bad e) = refl
  mapped_then f (got a r) = refl

  run_bind : (F : Form A) (h : A → Form B) (bs : List ℕ) → run (bind F h) bs ≡ and_then (run F bs) (λ a r. run (h a) r)
  run_bind (done a) h bs = refl
  run_bind (piece f k) h bs =
      then_same (piece_in f bs) (λ n r. run (bind (k n) h) r) (λ n r. and_then (run (k n) r) (λ a r. run (h a) r)) (λ n r. run_bind (k n) h r) ∙
      then_then (piece_in f bs) (λ n r. run (k n) r) (λ a r. run (h a) r)

  -- a part that is known to read as R
  run_then : (F : Form A) (R : List ℕ → Got A) (h : A → Form B) (k : A → List ℕ → Got B) → ((bs : List ℕ) → run F bs ≡ R bs) → ((a : A) (r : List ℕ) → run (h a) r ≡ k a r) → (bs : List ℕ) → run (bind F h) bs ≡ and_then (R bs) k
  run_then F R h k e s bs = run_bind F h bs ∙ ap (λ g. and_then g (λ a r. run (h a) r)) (e bs) ∙ then_same (R bs) (λ a r. run (h a) r) k s

  run_mapped : (F : Form A) (R : List ℕ → Got A) (f : A → B) → ((bs : List ℕ) → run F bs ≡ R bs) → (bs : List ℕ) → run (bind F (λ a. done (f a))) bs ≡ mapped f (R bs)
  run_mapped F R f e bs = run_then F R (λ a. done (f a)) (λ a r. got (f a) r) e (λ a r. refl) bs ∙ mapped_then f (R bs)

same_got : (g : Got ℕ) → and_then g (λ n r. got n r) ≡ g
same_got (bad e) = refl
same_got (got n r) = refl

run_one : (f : Piece) (bs : List ℕ) → run (one f) bs ≡ piece_in f bs
run_one f bs = same_got (piece_in f bs)

run_many : {S A : Type 0} (F : S → Form A) (R : S → List ℕ → Got A) (next : S → A → S) → ((s : S) (bs : List ℕ) → run (F s) bs ≡ R s bs) → (n : ℕ) (s : S) (bs : List ℕ) → run (many F next n s) bs ≡ chain R next n s bs
run_many F R next e zero s bs = refl
run_many F R next e (suc n) s bs =
    run_then (F s) (R s) (λ x. bind (many F next n (next s x)) (λ xs. done (x ∷ xs))) (λ x r. mapped (λ xs. x ∷ xs) (chain R next n (next s x) r)) (e s)
    (λ x r. run_mapped (many F next n (next s x)) (chain R next n (next s x)) (λ xs. x ∷ xs) (λ bs. run_many F R next e n (next s x) bs) r) bs

run_cells : (top n : ℕ) (bs : List ℕ) → run (cells_form top n) bs ≡ times n (cell_of top) bs
run_cells top n bs = run_many {S = ℕ} (λ _. one (cell_piece top)) (λ _. cell_of top) (λ s _. s) (λ _ bs. run_one (cell_piece top) bs) n 0 bs

run_rule : (top : ℕ) (cs : List ℕ) (bs : List ℕ) → run (rule_form top cs) bs ≡ rule_in top cs bs
run_rule top cs bs =
    run_then (one (count_piece 0 4)) (count_of 0 4) _ _ (run_one (count_piece 0 4)) (λ n r.
    run_then (many (λ low. one (count_piece low (length cs - 1))) (λ _ b. b + 1) n 0) (rising n 0 (length cs)) _ _ (λ bs. run_many (λ low. one (count_piece low (length cs - 1))) (λ low. count_of low (length cs - 1)) (λ _ b. b + 1) (λ low bs. run_one (count_piece low (length cs - 1)) bs) n 0 bs) (λ scope r.
    run_mapped (cells_form top (cells_in cs scope)) (times (cells_in cs scope) (cell_of top)) (λ cells. record { scope = scope; cells = cells }) (run_cells top (cells_in cs scope)) r) r) bs

run_rules : (top n : ℕ) (cs : List ℕ) (own : List (List ℕ)) (bs : List ℕ) → run (rules_form top n cs own) bs ≡ mapped (λ rules. record { own = own; rules = rules }) (times n (rule_in top cs) bs)
run_rules top n cs own bs =
    run_mapped (many {S = ℕ} (λ _. rule_form top cs) (λ s _. s) n 0) (times n (rule_in top cs)) (λ rules. record { own = own; rules = rules }) (λ bs. run_many {S = ℕ} (λ _. rule_form top cs) (λ _. rule_in top cs) (λ s _. s) (λ _ bs. run_rule top cs bs) n 0 bs) bs

run_prices : (top n : ℕ) (cs : List ℕ) (bs : List ℕ) → run (prices_form top n cs) bs ≡ and_then (prices_in top cs bs) (λ own r. mapped (λ rules. record { own = own; rules = rules }) (times n (rule_in top cs) r))
run_prices top n cs bs =
    run_then (many (λ i. cells_form top (get_or cs i 0)) (λ i _. i + 1) (length cs) 0) (prices_in top cs) (rules_form top n cs) (λ own r. mapped (λ rules. record { own = own; rules = rules }) (times n (rule_in top cs) r)) (λ bs. run_many (λ i. cells_form top (get_or cs i 0)) (λ i. times (get_or cs i 0) (cell_of top)) (λ i _. i + 1) (λ i bs. run_cells top (get_or cs i 0) bs) (length cs) 0 bs) (run_rules top n cs) bs

abbrev prices_then : ℕ → ℕ → List ℕ → List ℕ → Got Layout
prices_then top n cs bs = and_then (prices_in top cs bs) (λ own r. mapped (λ rules. record { own = own; rules = rules }) (times n (rule_in top cs) r))

abbrev bays_then : ℕ → ℕ → List ℕ → Got Layout
bays_then top bays bs = and_then (count_of 0 64 bs) (λ n r. and_then (times bays (count_of 1 8) r) (prices_then top n))

run_bays : (top bays : ℕ) (bs : List ℕ) → run (bays_form top bays) bs ≡ bays_then top bays bs
run_bays top bays bs =
    run_then (one (count_piece 0 64)) (count_of 0 64) (λ n. bind (many {S = ℕ} (λ _. one (count_piece 1 8)) (λ s _. s) bays 0) (prices_form top n)) (λ n r. and_then (times bays (count_of 1 8) r) (prices_then top n)) (run_one (count_piece 0 64)) (λ n r.
    run_then (many {S = ℕ} (λ _. one (count_piece 1 8)) (λ s _. s) bays 0) (times bays (count_of 1 8)) (prices_form top n) (prices_then top n) (λ bs. run_many {S = ℕ} (λ _. one (count_piece 1 8)) (λ _. count_of 1 8) (λ s _. s) (λ _ bs. run_one (count_piece 1 8) bs) bays 0 bs) (run_prices top n) r) bs

run_body : (top : ℕ) (bs : List ℕ) → run (body_form top) bs ≡ body_in top bs
run_body top bs = run_then (one (count_piece 1 24)) (count_of 1 24) (bays_form top) (bays_then top) (run_one (count_piece 1 24)) (run_bays top) bs

pub run_book : (mark top : ℕ) (bs : List ℕ) → run (book_form mark top) bs ≡ and_then (head_in mark bs) (λ _ r. body_in top r)
run_book mark top bs =
    let m : Piece = mark_piece mark in
    run_then (one m) (piece_in m) (λ _. bind (one version_piece) (λ _. body_form top)) (λ _ r. and_then (piece_in version_piece r) (λ _ r. body_in top r)) (run_one m) (λ _ r.
    run_then (one version_piece) (piece_in version_piece) (λ _. body_form top) (λ _ r. body_in top r) (run_one version_piece) (λ _ r. run_body top r) r) bs ∙
    then_then (piece_in m bs) (λ _ r. piece_in version_piece r) (λ _ r. body_in top r)
