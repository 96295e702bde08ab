use Rattle.dwz_def_tops.proofs.ShownLemmas.{map_shown}
use Rattle.dwz_def_images.proofs.ApartUnits.{all_apart}
use Rattle.dwz_def_images.proofs.FileOuts.{file_outs}
use Rattle.dwz_def_images.proofs.FileLemmas.{closed_names, files_are, files_same, same_names, same_places, served_file, served_same}
use Rattle.dwz_def_images.proofs.HeldLemmas.{plan_held}
use Rattle.dwz_def_images.proofs.NodeLemmas.{comes_from, type_kept}
use Rattle.dwz_def_images.proofs.OldFiles.{files_old, files_shown}
use Rattle.dwz_def_images.proofs.OneImageLemmas.{alone_names, one_image}
use Rattle.dwz_def_images.proofs.OutLemmas.{all_outs}
use Rattle.dwz_def_images.proofs.OutMains.{out_mains}
use Rattle.dwz_def_images.proofs.BackLemmas.{stands_back}
use Rattle.dwz_def_images.proofs.ServeLemmas.{held_serves}
use Rattle.dwz_def_images.proofs.StillLemmas.{still}
use Rattle.dwz_def_images.proofs.same.same_laws.Goals as goal

pub returns-clause-names : goal.returns-clause-names
returns-clause-names c = files_old

pub returns-clause-places : goal.returns-clause-places
returns-clause-places c = files_shown

pub returns-clause-files : goal.returns-clause-files
returns-clause-files c = files_are

pub returns-clause-after : goal.returns-clause-after
returns-clause-after c = all_outs

pub returns-clause-file_after : goal.returns-clause-file_after
returns-clause-file_after c = file_outs

pub returns-clause-still : goal.returns-clause-still
returns-clause-still c = still

pub returns-clause-stands : goal.returns-clause-stands
returns-clause-stands c = stands_back

pub returns-clause-apart : goal.returns-clause-apart
returns-clause-apart c = all_apart

pub returns-clause-held : goal.returns-clause-held
returns-clause-held c = plan_held

pub returns-clause-serves : goal.returns-clause-serves
returns-clause-serves c = held_serves

pub returns-clause-served : goal.returns-clause-served
returns-clause-served c = served_same

pub returns-clause-served_file : goal.returns-clause-served_file
returns-clause-served_file c = served_file

pub returns-clause-entries : goal.returns-clause-entries
returns-clause-entries c units m outs r = comes_from units m r.old r.held outs r.after

pub returns-clause-types : goal.returns-clause-types
returns-clause-types c = type_kept

pub returns-clause-same : goal.returns-clause-same
returns-clause-same c = same_names

pub returns-clause-closed : goal.returns-clause-closed
returns-clause-closed c = closed_names

pub returns-clause-mains : goal.returns-clause-mains
returns-clause-mains c = out_mains

pub returns-clause-images : goal.returns-clause-images
returns-clause-images c = one_image

pub returns-clause-alone : goal.returns-clause-alone
returns-clause-alone c = alone_names

pub returns-clause-shown : goal.returns-clause-shown
returns-clause-shown c = map_shown

pub returns-clause-placed : goal.returns-clause-placed
returns-clause-placed c = same_places

pub returns-clause-together : goal.returns-clause-together
returns-clause-together c = files_same
