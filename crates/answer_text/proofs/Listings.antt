-- A handover list that is cut to its length says the same.
use Rattle.std.proofs.Common.{◌≡◌, ℕ, zero, suc, ◌<◌, ◌≤◌, List, ◌++◌, refl, ap, ◌∙◌, arith, length, get_or, take, get_or-take}
use Rattle.std.proofs.Math.Seq.{length-take-le}
use Rattle.table_text.specs.Texts.{texts}

-- texts that are the same at each place
texts-same : (f g : ℕ → List ℕ) (n : ℕ) → ((i : ℕ) → i < n → f i ≡ g i) → texts f n ≡ texts g n
unfolding texts
texts-same f g zero same = refl
texts-same f g (suc n) same = ap (λ before. before ++ f n) (texts-same f g n (λ i h. same i (omega arith))) ∙ ap (λ last. texts g n ++ last) (same n (omega arith))

pub texts-cut : (text : ℕ → ℕ → List ℕ) (n : ℕ) (records reasons : List ℕ) → n ≤ length records
    → texts (λ i. text (get_or (take n records) i 0) (get_or (take n reasons) i 0)) (length (take n records)) ≡ texts (λ i. text (get_or records i 0) (get_or reasons i 0)) n
texts-cut text n records reasons h =
    rw (length-take-le n records h) (texts-same (λ i. text (get_or (take n records) i 0) (get_or (take n reasons) i 0)) (λ i. text (get_or records i 0) (get_or reasons i 0)) n (λ i below. rw (get_or-take n records i 0 below, get_or-take n reasons i 0 below)))
