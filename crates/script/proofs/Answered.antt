-- Lines that are answered one after the other by a session. Assumes nothing.
use Rattle.std.proofs.Common.{◌≡◌, ℕ, Bool, true, false, List, [], ◌∷◌, ◌++◌, Ok, Err, Result, sym, refl, ap, ◌∙◌, append_assoc}
use Rattle.std.proofs.lemmas.List.{append-nil}
use Rattle.score.specs.Music.{pick}
use Rattle.score.specs.Calls.{Call, Answer, refused, Limits, Layout, Score, empty_voices}
use Rattle.score.specs.Promise.{whole}
use Rattle.score.proofs.Picks.{pick_true, pick_false}
use Rattle.wire.specs.Bytes.{each}
use Rattle.memory.specs.Store.{stored, voices_in, limit_in, limits_of, layout_of, score_of, Kept}
use Rattle.memory.proofs.Back.{score_back}
use Rattle.memory.proofs.Run.{kept_after, kept_empty}
use Rattle.score.specs.declared.Opening.{Opening}
use Rattle.session.specs.Session.{limits_for, layout_for, Ready}
use Rattle.text.specs.Lines.{call_line}
use Rattle.score.specs.Spelling.{spelled_answer}
use Rattle.script.specs.Lines.{line_end}
use Rattle.script.specs.Script.{answer_line, answer_lines, after_line, line_answers, serves, opened_answers}
use Rattle.script.specs.Desk.{score_words, line_answer_in, words_after, line_answers_in}

-- what a line leaves is a score that can be kept
kept_line : (l : Limits) (y : Layout) (s : Score) (r : Result Call ℕ) → Kept l s → Kept l (after_line l y s r)
kept_line l y s (Ok c) k = kept_after l y s c k
kept_line l y s (Err n) k = k

-- the limits of a session's score
abbrev limits : ℕ → ℕ → Limits
limits v n = record { calls_can = whole; signs = true; voices = v; events = n }

-- the words of a score tell its limits, its layout and itself
answers_stored :
    (w : List ℕ) (v n : ℕ) (y : Layout) (s : Score) (ls : List (List ℕ)) → Kept (limits v n) s → score_words w ≡ stored (limits v n) y s
    → line_answers_in w ls ≡ line_answers (limits v n) y s ls
unfolding stored
answers_stored w v n y s ls k e =
    ap (λ (x : List ℕ). line_answers (limits_of x) (layout_of x) (score_of x) ls) e
    ∙ ap (λ (t : Score). line_answers (limits v n) y t ls) (score_back (limits v n) y s k)

-- lines are answered from an opening on
pub opened_so :
    (o : Opening) (w : List ℕ) (ls : List (List ℕ)) → serves o ≡ true → score_words w ≡ stored (limits_for o) (layout_for o) (empty_voices o.voices)
    → answer_lines (line_answers_in w ls) ≡ answer_lines (opened_answers o ls)
opened_so o w ls h e =
    ap answer_lines (answers_stored w o.voices o.events (layout_for o) (empty_voices o.voices) ls (kept_empty (limits_for o)) e ∙ sym (pick_true _ _ _ h))

-- one line more, and none left
pub line_more :
    (w b w' out spelt out' line whole : List ℕ) (ls ms : List (List ℕ)) → Ready w b → ls ≡ line ∷ ms → spelt ≡ out ++ spelled_answer (line_answer_in w (call_line line))
    → out' ≡ spelt ++ (line_end ∷ []) → score_words w' ≡ words_after w (call_line line) → out ++ answer_lines (line_answers_in w ls) ≡ whole
    → out' ++ answer_lines (line_answers_in w' ms) ≡ whole
unfolding line_answers each
line_more w b w' out spelt out' line whole ls ms h el es eo ew inv =
    let W : List ℕ = score_words w in
    let r : Result Call ℕ = call_line line in
    let s' : Score = after_line (limits_of W) (layout_of W) (score_of W) r in
    ap (λ (as' : List Answer). out' ++ answer_lines as') (answers_stored w' (voices_in W) (limit_in W) (layout_of W) s' ms (kept_line (limits_of W) (layout_of W) (score_of W) r h.holds.proper.kept) ew)
    ∙ ap (λ (o : List ℕ). o ++ answer_lines (line_answers (limits_of W) (layout_of W) s' ms))
    (eo ∙ ap (λ (o : List ℕ). o ++ (line_end ∷ [])) es ∙ append_assoc out (spelled_answer (line_answer_in w r)) (line_end ∷ []))
    ∙ append_assoc out (answer_line (line_answer_in w r)) (answer_lines (line_answers (limits_of W) (layout_of W) s' ms))
    ∙ ap (λ (xs : List (List ℕ)). out ++ answer_lines (line_answers_in w xs)) (sym el)
    ∙ inv

pub lines_over : (w out whole : List ℕ) (ls : List (List ℕ)) → ls ≡ [] → out ++ answer_lines (line_answers_in w ls) ≡ whole → out ≡ whole
unfolding line_answers each
lines_over w out whole ls e inv = sym (append-nil out) ∙ ap (λ (xs : List (List ℕ)). out ++ answer_lines (line_answers_in w xs)) (sym e) ∙ inv

-- a refusal alone
pub one_line : (out new : List ℕ) (a : Answer) → new ≡ out ++ (spelled_answer a ++ (line_end ∷ [])) → new ≡ out ++ answer_lines (a ∷ [])
unfolding each
one_line out new a e = e ∙ ap (λ (x : List ℕ). out ++ x) (sym (append-nil (answer_line a)))

-- what is served, and what is not
pub picked_ok : {A E : Type 0} (b : Bool) (x y : A) (e : E) → Ok x ≡ pick b (Ok y) (Err e) → (b ≡ true) × (x ≡ y)
picked_ok true x y e h = (refl, cc)
picked_ok false x y e h = cc

pub picked_err : {A E : Type 0} (b : Bool) (y : A) (d e : E) → Err d ≡ pick b (Ok y) (Err e) → (b ≡ false) × (d ≡ e)
picked_err true y d e h = cc
picked_err false y d e h = (refl, cc)

pub unserved : (o : Opening) (ls : List (List ℕ)) → serves o ≡ false → refused 3 1 ∷ [] ≡ opened_answers o ls
unserved o ls h = sym (pick_false _ _ _ h)
