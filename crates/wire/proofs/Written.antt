-- What a call f(&mut out[a..]) leaves in `out`, where f writes over the front of its part. Assumes nothing.
use Rattle.std.proofs.Common.{◌≡◌, ℕ, ◌+◌, ◌-◌, ◌≤◌, List, [], ◌++◌, length, take, drop, sym, refl, ap, ◌∙◌, append_assoc, arith, length-drop, length-take}
use borrow.Rule.Slice.PartMut.{put_mid}
use Rattle.std.proofs.lemmas.List.{drop-drop, take_rest, append-nil, drop_all, take_at, drop_at}

pub put_rest :
    {A : Type 0} (out ws last : List A) (a n : ℕ) → last ≡ ws ++ drop n (take (length out - a) (drop a out))
    → put_mid a (length out - a) out last ≡ take a out ++ (ws ++ drop (a + n) out)
put_rest out ws last a n e =
    let none : drop (length out - a) (drop a out) ≡ [] = drop_all (length out - a) (drop a out) (simp length-drop (omega arith)) in
    simp (none, append-nil, e, take_rest, drop-drop)

-- the same where the front was written before, and `was` is what was lent
pub put_next :
    {A : Type 0} (out was front ws last : List A) (a n : ℕ) → out ≡ front ++ drop a was → length front ≡ a
    → last ≡ ws ++ drop n (take (length out - a) (drop a out))
    → put_mid a (length out - a) out last ≡ (front ++ ws) ++ drop (a + n) was
put_next out was front ws last a n o p e =
    put_rest out ws last a n e
    ∙ rw (o, ← drop-drop n a (front ++ drop a was), drop_at front (drop a was) a p, take_at front (drop a was) a p, drop-drop n a was, append_assoc) refl

-- and where the front is written afterwards, as the count of what was written behind it
pub put_before :
    {A : Type 0} (out front ws last : List A) (a n : ℕ) → a ≤ length out → last ≡ ws ++ drop n (take (length out - a) (drop a out))
    → front ++ drop a (put_mid a (length out - a) out last) ≡ (front ++ ws) ++ drop (a + n) out
put_before out front ws last a n h e =
    ap (λ r. front ++ drop a r) (put_rest out ws last a n e)
    ∙ ap (λ r. front ++ r) (drop_at (take a out) (ws ++ drop (a + n) out) a (simp length-take (omega arith)))
    ∙ sym (append_assoc front ws (drop (a + n) out))
