-- By induction over the notes that came.
use Rattle.std.proofs.Common.{◌≡◌, List, [], ◌∷◌, sym, ap, ◌∙◌, subst}
use Rattle.score.specs.Meaning.{sound_meant}
use Rattle.score.specs.Music.{Heard}
use Rattle.sounds.specs.Single.{heard_yet, NotesHeard}
use Rattle.sounds.specs.declared.single.Notes.{Notes}
use Rattle.sounds.proofs.single.notes_heard.Goals as goal

all_heard : NotesHeard
all_heard n m [] h = subst (λ (k : Notes). [] ≡ heard_yet k) (sym h.1) (sym h.2.gives.0)
all_heard n m (x ∷ xs) h = ap (λ (hs : List Heard). (sound_meant x).1 ∷ hs) (all_heard h.1.0 m xs (h.0, h.1.2, h.2)) ∙ sym h.1.1.gives.1

pub returns : goal.returns
returns c = all_heard
