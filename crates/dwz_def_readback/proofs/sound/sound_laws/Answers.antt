use Rattle.dwz_def_readback.proofs.FilesSound.{all_sound, run_apart}
use Rattle.dwz_def_readback.proofs.sound.sound_laws.Goals as goal

pub returns-clause-sound : goal.returns-clause-sound
returns-clause-sound c = λ scope docs input are rule is choice few f there. all_sound scope docs input are rule is choice few f there

pub returns-clause-apart : goal.returns-clause-apart
returns-clause-apart c = λ scope docs input are rule is choice. run_apart scope docs input are rule is choice
