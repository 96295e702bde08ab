use Rattle.std.proofs.Common.{◌≡◌, ap, ◌∙◌}
use Rattle.dwz_def_reading.specs.declared.elf.FileHeader.{FileHeader}
use Rattle.dwz_def_reading.specs.ElfHeaders.{headers_from, headers_in}
use Rattle.dwz_expand_file.proofs.HeaderLemmas.{is_without}
use Rattle.dwz_expand_file.proofs.without.moved_behind.Goals as goal

pub returns : goal.returns
returns c =
    let input = c.args.input.now in
    let file = c.file_header-file.ensures in
    let headers : c.in_ok-headers.headers.items ≡ headers_in input = c.in_ok-headers.ensures ∙ ap (λ (h : FileHeader). headers_from input h.headers_at h.headers) file in
    record {
      bytes_are =
          is_without input c.name_table.result.now c.file_header-file.result c.deref-2.result.now c.table_place-place.result c.in_ok-bytes.bytes.items _ file
          (c.deref-2.ensures.value ∙ headers) c.name_table.ensures c.table_place-place.ensures c.in_ok-bytes.ensures c.in_ok-put_headers.ensures;
      headers_are = c.table_place-place.ensures;
      began_at = ap (λ (h : FileHeader). h.headers_at) file;
    }
