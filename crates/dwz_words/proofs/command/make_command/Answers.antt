use Rattle.std.proofs.Common.{codes}
use Rattle.std.proofs.lemmas.Result.{IfOk-weaker}
use Rattle.dwz_words.proofs.CommandLemmas.{added, bare_app}
use Rattle.dwz_words.proofs.command.make_command.Goals as goal

pub returns : goal.returns
returns c =
    let bare = bare_app _ _ _ _ (codes "dwz") c.new.ensures.app c.no_binary_name.ensures c.disable_help_flag.ensures c.disable_version_flag-bare.ensures in
    let quiet = added _ _ _ _ _ c.in_ok-arg.ensures c.quiet_flag.ensures.local bare c.quiet_flag.ensures.rule in
    let dwarf = added _ _ _ _ _ c.in_ok-flagged.ensures c.long_flag.ensures.local quiet c.long_flag.ensures.rule in
    let common = added _ _ _ _ _ c.in_ok-arg-2.ensures c.letter_option.ensures.local dwarf c.letter_option.ensures.rule in
    let name = added _ _ _ _ _ c.in_ok-arg-3.ensures c.letter_option-2.ensures.local common c.letter_option-2.ensures.rule in
    let out = added _ _ _ _ _ c.in_ok-named.ensures c.letter_option-3.ensures.local name c.letter_option-3.ensures.rule in
    let workers = added _ _ _ _ _ c.in_ok-arg-4.ensures c.workers_option.ensures.local out c.workers_option.ensures.rule in
    let demo = added _ _ _ _ _ c.in_ok-numbered.ensures c.demo_option.ensures.local workers c.demo_option.ensures.rule in
    let file = added _ _ _ _ _ c.in_ok-filed.ensures c.file_words.ensures.local demo c.file_words.ensures.rule in
    let explain = added _ _ _ _ _ c.in_ok-arg-5.ensures c.long_flag-2.ensures.local file c.long_flag-2.ensures.rule in
    let check = added _ _ _ _ _ c.in_ok-asked.ensures c.long_flag-3.ensures.local explain c.long_flag-3.ensures.rule in
    let sup = added _ _ _ _ _ c.in_ok-beside.ensures c.long_option.ensures.local check c.long_option.ensures.rule in
    let expand = added _ _ _ _ _ c.in_ok-expanding.ensures c.long_flag-4.ensures.local sup c.long_flag-4.ensures.rule in
    let reuse = added _ _ _ _ _ c.in_ok-reusing.ensures c.long_option-2.ensures.local expand c.long_option-2.ensures.rule in
    IfOk-weaker c.arg-14.result _ _ (λ r h. added _ r _ _ _ h c.long_option-3.ensures.local reuse c.long_option-3.ensures.rule) c.arg-14.ensures
