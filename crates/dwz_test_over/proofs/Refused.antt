-- A common file that was changed: its checksum differs, which refuses all.
use Rattle.std.proofs.Common.{◌≡◌, [], ◌∷◌, Err, refl, inl}
use Rattle.std.specs.Prelude.{codes}
use Rattle.std.specs.Fmt.{digits}
use Rattle.sha2.specs.Sha256.{compress, digest_bytes, first_words, hash_after, rounds, schedule, sha256}
use Rattle.dwz_def_reading.specs.Reason.TheVariants.{Checksum}
use Rattle.dwz_def_reading.specs.Refusal.{Refusal}
use Rattle.dwz_def_reading.specs.Finished.{beside_meaning, common_sup_fault}
use Rattle.dwz_def_reading.specs.Supplementary.{read_sup}
use Rattle.dwz_def_reading.proofs.FinishedLemmas.{beside_agrees}
use Rattle.dwz_report.specs.Texts.{refusal_text}
use Rattle.dwz_run_course.specs.Outcome.{name_of_file, refuses}
use Rattle.dwz_def_run.specs.Comes.{Comes}
use Rattle.dwz_test_definitions.proofs.Comes.{come, said}
use Rattle.dwz_test_over.proofs.Bytes.{bad_file, three_file}
use Rattle.dwz_test_over.proofs.Comes.{asked}

abbrev refusal : Refusal
refusal = record { file = 1; section = 9; at = 5; reason = Checksum }

bad_said : beside_meaning bad_file (three_file ∷ []) ≡ Err refusal
unfolding said beside_meaning common_sup_fault read_sup compress digest_bytes first_words hash_after rounds schedule sha256
bad_said = refl

bad_comes : Comes asked (bad_file ∷ three_file ∷ []) (refuses refusal)
unfolding come
bad_comes = inl (((beside_agrees bad_file (three_file ∷ [])).err refusal).0 bad_said)

bad_text : refusal_text (name_of_file asked 1) refusal ≡ codes "dwz: common: .debug_sup+0x5: checksum differs\n"
unfolding digits
bad_text = refl
