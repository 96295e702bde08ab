-- A file of which the headers were read: its faults, and what is opened of it.
use Rattle.std.proofs.Common.{◌≡◌, ℕ, ◌<◌, ◌^◌, List, length, Option, Ok, sym, ap, subst, ◌∙◌}
use Rattle.dwz_def_reading.specs.Input.{input}
use Rattle.dwz_model.specs.declared.fault.ReadErr.{ReadErr}
use Rattle.dwz_def_reading.specs.Faults.{Fails}
use Rattle.dwz_def_reading.specs.Files.{Limits, debug_aranges, file_meaning_by, section_of, sources_of}
use Rattle.dwz_def_reading.specs.Meanings.{Common}
use Rattle.dwz_def_reading.specs.Units.{units_at}
use Rattle.dwz_graph.specs.declared.file.Headed.{Headed}
use Rattle.dwz_graph.specs.declared.file.Opened.{Opened}
use Rattle.dwz_graph.specs.declared.rule.Rule.{Rule}
use Rattle.dwz_graph.specs.ByRule.{IsGoodRule, IsHeaded, IsOpened, common_of, kind_of, rule_view}
use Rattle.dwz_graph_resolve.specs.Resolved.{sources_view}
use Rattle.dwz_graph_resolve.specs.Surroundings.{common_view, entries_among}
use Rattle.dwz_unit.specs.Rows.{Source, units_of}
use Rattle.dwz_graph.proofs.FileLemmas.{IsGood, bytes_short, content_short, units_fail, units_read}
use Rattle.dwz_graph.proofs.RuleLemmas.{around_known, own_few, room_among}

module _ (rule : Rule) (l : Limits) (bytes : List ℕ) (h : Headed) (is : IsHeaded rule l bytes h) where
  good : IsGood (rule_view rule) l bytes
  good = record { size = is.size; elf = is.faultless; machine = is.machine; sup = is.sup }

  pub headed_short : length bytes < 2 ^ 32
  headed_short = bytes_short l bytes is.size

  pub headed_info : length h.info.now < 2 ^ 32
  unfolding section_of
  headed_info = content_short l bytes h.info.now _ is.info is.size

  pub headed_abbrevs : length h.abbrevs.now < 2 ^ 32
  unfolding section_of
  headed_abbrevs = content_short l bytes h.abbrevs.now _ is.abbrevs is.size

  pub headed_fails : (e : ReadErr) → Fails e (units_at h.abbrevs.now ((rule_view rule).mode l.entries) 0 (input h.info.now 0)) → Fails e (file_meaning_by (rule_view rule) l bytes)
  headed_fails e fails = units_fail (rule_view rule) e l bytes h.info.now h.abbrevs.now good is.info is.abbrevs fails

  -- its units were read
  pub headed_opened : IsGoodRule rule → (o : Opened) (units : Source) (abbrevs : List ℕ)
      → units_at h.abbrevs.now ((rule_view rule).mode l.entries) 0 (input h.info.now 0) ≡ Ok (units_of units)
      → units ≡ record { info = h.info.now; abbrevs = abbrevs; kind = kind_of rule; room = l.entries }
      → o.elf ≡ h.elf → o.units ≡ units → sources_view o.around.sections ≡ sources_of bytes → o.around.sections.aranges.now ≡ debug_aranges bytes
      → common_view o.around.common ≡ common_of rule → IsOpened rule l bytes o
  unfolding section_of
  headed_opened good_rule o units abbrevs read source elf same sources aranges common =
      let raw = units_of o.units in
      let there : units_at h.abbrevs.now ((rule_view rule).mode l.entries) 0 (input h.info.now 0) ≡ Ok raw = read ∙ ap (λ (w : Source). Ok (units_of w)) (sym same) in
      let few = own_few l bytes h.info.now h.abbrevs.now _ _ raw is.size is.info there in
      record {
        says = units_read (rule_view rule) l bytes h.info.now h.abbrevs.now raw good is.info is.abbrevs there;
        around = around_known rule o.around bytes raw sources common;
        room = subst (λ (c : Option (Common ℕ)). entries_among c raw < 2 ^ 32) (sym common) (room_among rule raw good_rule few);
        elf = elf ∙ is.elf;
        kind = ap (λ (x : Source). x.kind) (same ∙ source);
        info = ap (λ (x : Source). x.info) (same ∙ source) ∙ is.info;
        sections = sources;
        aranges = aranges;
      }
