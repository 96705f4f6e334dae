-- That the words hold a score is computed.
use Rattle.std.proofs.Common.{refl, arith}
use Rattle.score.specs.Music.{lasts, total, fine, all_fine}
use Rattle.score.specs.Print.{among}
use Rattle.score.specs.Calls.{all_events, none_too_long}
use Rattle.laws.specs.Rows.{voice_of}
use Rattle.laws.specs.Onsets.{sign_at, then_held, onsets}
use Rattle.memory.specs.Store.{spread, padded, stored, dealt, parted, all_fines}
use Rattle.sounds_tests.proofs.tests.score.Goals as goal

pub returns : goal.returns
unfolding lasts total fine all_fine all_events none_too_long voice_of among sign_at then_held onsets spread padded stored dealt parted all_fines
returns c = record {
  holds = record {
    is = refl;
    proper = record {
      good_limits = (omega arith, omega arith, omega arith);
      good_layout = (omega arith, omega arith, omega arith, refl);
      kept = record { so_many = refl; fitting = omega arith; short = refl; fines = refl };
      size = refl;
    };
  };
  limit = refl;
}
