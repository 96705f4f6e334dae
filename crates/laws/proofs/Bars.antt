-- Bars are full, and so many lines stand as there are full bars. Assumes nothing.
use Rattle.std.proofs.Common.{◌≡◌, ℕ, zero, suc, ◌+◌, ◌*◌, ◌%◌, ◌<◌, ◌≤◌, true, ◌⊎◌, List, [], ◌∷◌, ◌++◌, length, get_or, sym, refl, ap, ◌∙◌, subst, ap₂, inl, inr, mul-le-mul_right, arith}
use Rattle.std.proofs.lemmas.Bool.{and_parts, cases_lt}
use Rattle.score.specs.Music.{Event, note, silence, lasts, total, all_fine}
use Rattle.score.specs.Print.{Symbol, bar, head, rest, key, Chunk, value, line, chunks, heads, rests, print, printed}
use Rattle.score.specs.Promise.{BarsFull, lengths}
use Rattle.laws.proofs.Events.{fine_lasts}
use Rattle.laws.specs.Laying.{span, LiesWell}
use Rattle.laws.proofs.Laid.{span-++, span_chunks, lies_chunks, next_below, next_three}

-- symbols without their places, signs and ties: values and lines
unfoldable pub marks : List Symbol → List Chunk
marks [] = []
marks (bar ∷ xs) = line ∷ marks xs
marks (head p s v t ∷ xs) = value v ∷ marks xs
marks (rest v ∷ xs) = value v ∷ marks xs

marks_heads : (p s : ℕ) (cs : List Chunk) (xs : List Symbol) → marks (heads p s cs ++ xs) ≡ cs ++ marks xs
unfolding marks heads
marks_heads p s [] xs = refl
marks_heads p s (line ∷ cs) xs = ap (λ (r : List Chunk). line ∷ r) (marks_heads p s cs xs)
marks_heads p s (value v ∷ cs) xs = ap (λ (r : List Chunk). value v ∷ r) (marks_heads p 0 cs xs)

marks_rests : (cs : List Chunk) (xs : List Symbol) → marks (rests cs ++ xs) ≡ cs ++ marks xs
unfolding marks rests
marks_rests [] xs = refl
marks_rests (line ∷ cs) xs = ap (λ (r : List Chunk). line ∷ r) (marks_rests cs xs)
marks_rests (value v ∷ cs) xs = ap (λ (r : List Chunk). value v ∷ r) (marks_rests cs xs)

-- a voice laid over bars: what is printed of it, without places, signs and ties
unfoldable pub lay : ℕ → ℕ → List Event → List Chunk
lay b o [] = []
lay b o (e ∷ es) = chunks (suc (lasts e)) b o (lasts e) ++ lay b ((o + lasts e) % b) es

pub marks_print : (k b o : ℕ) (st : ℕ → ℕ) (es : List Event) → marks (print k b o st es) ≡ lay b o es
unfolding print lay marks lasts
marks_print k b o st [] = refl
marks_print k b o st (note p a d ∷ es) =
    marks_heads p _ (chunks (suc d) b o d) _ ∙ ap (λ (r : List Chunk). chunks (suc d) b o d ++ r) (marks_print k b ((o + d) % b) _ es)
marks_print k b o st (silence d ∷ es) =
    marks_rests (chunks (suc d) b o d) _ ∙ ap (λ (r : List Chunk). chunks (suc d) b o d ++ r) (marks_print k b ((o + d) % b) _ es)

-- what is printed lies well
lies_lay : (b o : ℕ) (es : List Event) → o < b → b % 3 ≡ 0 → o % 3 ≡ 0 → all_fine es ≡ true → LiesWell b o (lay b o es)
unfolding LiesWell lay all_fine
lies_lay b o [] h b3 o3 f = h
lies_lay b o (e ∷ es) h b3 o3 f =
    lies_chunks (suc (lasts e)) b o (lasts e) (lay b ((o + lasts e) % b) es) (omega arith) h b3 o3 g.1
    (lies_lay b ((o + lasts e) % b) es (next_below b (o + lasts e) (omega arith)) b3 (next_three b (o + lasts e) b3 (omega (arith, g.1))) (and_parts _ _ f).1)
  where
    g : (0 < lasts e) × (lasts e % 3 ≡ 0)
    g = fine_lasts e (and_parts _ _ f).0

pub lies_print : (k b o : ℕ) (st : ℕ → ℕ) (es : List Event) → o < b → b % 3 ≡ 0 → o % 3 ≡ 0 → all_fine es ≡ true → LiesWell b o (marks (print k b o st es))
lies_print k b o st es h b3 o3 f = subst (LiesWell b o) (sym (marks_print k b o st es)) (lies_lay b o es h b3 o3 f)

-- so the bars are as long as they should be
lengths_some : (xs : List Symbol) (t : ℕ) → 0 < length (lengths xs t)
unfolding lengths
lengths_some [] t = omega arith
lengths_some (bar ∷ xs) t = omega arith
lengths_some (head p s v w ∷ xs) t = lengths_some xs (t + v)
lengths_some (rest v ∷ xs) t = lengths_some xs (t + v)

lies_lengths : (b t : ℕ) (xs : List Symbol) (i : ℕ) → LiesWell b t (marks xs) → (suc i < length (lengths xs t) → get_or (lengths xs t) i 0 ≡ b) × (suc i ≡ length (lengths xs t) → get_or (lengths xs t) i 0 < b)
unfolding lengths marks LiesWell
lies_lengths b t [] zero h = (λ l. absurd (omega arith), λ _. h)
lies_lengths b t [] (suc i) h = (λ l. absurd (omega arith), λ l. absurd (omega arith))
lies_lengths b t (bar ∷ xs) zero h = (λ l. h.0, λ l. absurd (omega (arith, lengths_some xs 0)))
lies_lengths b t (bar ∷ xs) (suc i) h = let ih = lies_lengths b 0 xs i h.1 in (λ l. ih.0 (omega arith), λ l. ih.1 (omega arith))
lies_lengths b t (head p s v w ∷ xs) i h = lies_lengths b (t + v) xs i h.2
lies_lengths b t (rest v ∷ xs) i h = lies_lengths b (t + v) xs i h.2

pub bars_full : BarsFull
bars_full k b i es h b3 f = lies_lengths b 0 (printed k b es) i (lies_print k b 0 (key k) es h b3 refl f)

-- how many lines there are: as many as whole bars
unfoldable pub lines : List Chunk → ℕ
lines [] = 0
lines (value v ∷ cs) = lines cs
lines (line ∷ cs) = suc (lines cs)

lies_lines : (b t : ℕ) (cs : List Chunk) → LiesWell b t cs → (lines cs * b ≤ t + span cs) × (t + span cs < suc (lines cs) * b)
unfolding lines LiesWell span
lies_lines b t [] h = (omega arith, omega arith)
lies_lines b t (value v ∷ cs) h = let ih = lies_lines b (t + v) cs h.2 in (omega arith, omega arith)
lies_lines b t (line ∷ cs) h = let ih = lies_lines b 0 cs h.1 in (omega arith, omega arith)

span_lay : (b o : ℕ) (es : List Event) → o < b → b % 3 ≡ 0 → o % 3 ≡ 0 → all_fine es ≡ true → span (lay b o es) ≡ total es
unfolding lay total span all_fine
span_lay b o [] h b3 o3 f = refl
span_lay b o (e ∷ es) h b3 o3 f =
    span-++ (chunks (suc (lasts e)) b o (lasts e)) (lay b ((o + lasts e) % b) es)
    ∙ ap₂ (λ (x y : ℕ). x + y) (span_chunks (suc (lasts e)) b o (lasts e) (omega arith) h b3 o3 g.1)
    (span_lay b ((o + lasts e) % b) es (next_below b (o + lasts e) (omega arith)) b3 (next_three b (o + lasts e) b3 (omega (arith, g.1))) (and_parts _ _ f).1)
  where
    g : (0 < lasts e) × (lasts e % 3 ≡ 0)
    g = fine_lasts e (and_parts _ _ f).0

pub lines_print : (k b : ℕ) (es : List Event) → 0 < b → b % 3 ≡ 0 → all_fine es ≡ true →
    (lines (marks (printed k b es)) * b ≤ total es) × (total es < suc (lines (marks (printed k b es))) * b)
lines_print k b es h b3 f =
    let l : span (marks (printed k b es)) ≡ total es = ap span (marks_print k b 0 (key k) es) ∙ span_lay b 0 es h b3 refl f in
    let w = lies_lines b 0 (marks (printed k b es)) (lies_print k b 0 (key k) es h b3 refl f) in
    (omega arith, omega arith)

pub lines_enough : (k b n : ℕ) (es : List Event) → 0 < b → b % 3 ≡ 0 → all_fine es ≡ true → n * b ≤ total es → n ≤ lines (marks (printed k b es))
lines_enough k b n es h b3 f l = go (cases_lt (lines (marks (printed k b es))) n)
  where
    go : (lines (marks (printed k b es)) < n) ⊎ (n ≤ lines (marks (printed k b es))) → n ≤ lines (marks (printed k b es))
    go (inr m) = m
    go (inl m) = absurd (omega (arith, mul-le-mul_right b m, lines_print k b es h b3 f))
