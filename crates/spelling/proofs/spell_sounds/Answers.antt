-- A row, by what it means.
use Rattle.std.proofs.Common.{[], string_bytes, codes, refl}
use Rattle.score.specs.Meaning.{sound_meant}
use Rattle.score.specs.Spelling.{spelled_sound}
use Rattle.spelling.proofs.Rows.{row_meant, retold}
use Rattle.spelling.proofs.spell_sounds.Goals as goal

pub returns : goal.returns
returns c =
    retold c.spell_row.result (string_bytes c.spell_row.new.out) (string_bytes c.args.out.now) _ _
    (row_meant spelled_sound sound_meant [] (codes ", ") c.args.sounds.now) (c.spell_row.ensures (λ x. spelled_sound (sound_meant x)) (λ x. refl))
