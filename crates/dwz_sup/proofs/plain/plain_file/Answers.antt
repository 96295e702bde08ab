use Rattle.std.proofs.Common.{ℕ, ◌≡◌, ◌+◌, ◌-◌, length, ap, sym, ◌∙◌, arith}
use Rattle.std.proofs.lemmas.List.{length-map}
use Rattle.std.specs.Int.{next_multiple_of}
use Rattle.dwz_def_reading.specs.PlainFile.{plain_end, plain_headers_at, section_names}
use Rattle.dwz_sup.specs.Seen.{section_seen, sections_seen}
use Rattle.dwz_sup.proofs.WrittenLemmas.{file_written, fits, name_of_names}
use Rattle.dwz_sup.proofs.plain.plain_file.Goals as goal

pub contents_len-names_at-requires : goal.contents_len-names_at-requires
contents_len-names_at-requires c = let f = fits c.args.machine c.args.flags (sections_seen c.args.sections.now) c.requires in omega (arith, f.contents)

pub overflow_add-names_at : goal.overflow_add-names_at
overflow_add-names_at c = let f = fits c.args.machine c.args.flags (sections_seen c.args.sections.now) c.requires in omega (arith, f.contents, c.contents_len-names_at.ensures)

pub overflow_add-end : goal.overflow_add-end
overflow_add-end c =
    let f = fits c.args.machine c.args.flags (sections_seen c.args.sections.now) c.requires in
    let names : c.len.result ≡ length c.in_ok-names.names.items = c.len.ensures ∙ c.in_ok-names.names.ok.0 in
    omega (arith, f.end, c.contents_len-names_at.ensures, names, ap length c.in_ok-names.ensures)

pub next_multiple_of-headers_at-requires-clause-fits : goal.next_multiple_of-headers_at-requires-clause-fits
next_multiple_of-headers_at-requires-clause-fits c =
    let f = fits c.args.machine c.args.flags (sections_seen c.args.sections.now) c.requires in
    let names : c.len.result ≡ length c.in_ok-names.names.items = c.len.ensures ∙ c.in_ok-names.names.ok.0 in
    omega (arith, f.end, c.contents_len-names_at.ensures, names, ap length c.in_ok-names.ensures)

pub overflow_add-headers_at : goal.overflow_add-headers_at
overflow_add-headers_at c =
    let sections = sections_seen c.args.sections.now in
    let f = fits c.args.machine c.args.flags sections c.requires in
    let names : c.len.result ≡ length c.in_ok-names.names.items = c.len.ensures ∙ c.in_ok-names.names.ok.0 in
    let end : 64 + c.contents_len-names_at.result + c.len.result ≡ plain_end sections = omega (arith, c.contents_len-names_at.ensures, names, ap length c.in_ok-names.ensures) in
    let at : c.next_multiple_of-headers_at.result ≡ plain_headers_at sections = c.next_multiple_of-headers_at.ensures.value ∙ ap (λ (n : ℕ). next_multiple_of n 8) end in
    omega (arith, f.headers, at, length-map c.args.sections.now section_seen)

pub put_headers-requires-clause-names : goal.put_headers-requires-clause-names
put_headers-requires-clause-names c = let f = fits c.args.machine c.args.flags (sections_seen c.args.sections.now) c.requires in f.names

pub put_headers-requires-clause-contents : goal.put_headers-requires-clause-contents
put_headers-requires-clause-contents c = let f = fits c.args.machine c.args.flags (sections_seen c.args.sections.now) c.requires in f.contents

pub returns : goal.returns
returns c =
    let sections = sections_seen c.args.sections.now in
    let contents = c.contents_len-names_at.ensures in
    let names : c.len.result ≡ length c.in_ok-names.names.items = c.len.ensures ∙ c.in_ok-names.names.ok.0 in
    let end : 64 + c.contents_len-names_at.result + c.len.result ≡ plain_end sections = omega (arith, contents, names, ap length c.in_ok-names.ensures) in
    let at : c.next_multiple_of-headers_at.result ≡ plain_headers_at sections = c.next_multiple_of-headers_at.ensures.value ∙ ap (λ (n : ℕ). next_multiple_of n 8) end in
    let name : c.len-2.result - 9 - 1 ≡ 1 + length (section_names sections) =
    omega (arith, c.len-2.ensures, c.in_ok-names.names.ok.0, name_of_names sections c.in_ok-names.names.items c.in_ok-names.ensures) in
    file_written c.args.machine c.args.flags sections c.next_multiple_of-headers_at.result (length c.args.sections.now + 2) _ (c.len-2.result - 9 - 1) (64 + c.contents_len-names_at.result)
    c.len-3.result
    c.deref.result.now
    (record {
      headers_at = at;
      count = ap (λ (n : ℕ). n + 2) (sym (length-map c.args.sections.now section_seen));
      names = c.deref.ensures.value ∙ c.in_ok-names.ensures;
      gap = (λ j. at j + 64 - end j);
      name = name;
      names_at = ap (λ (n : ℕ). 64 + n) contents;
      size = c.len-3.ensures ∙ c.in_ok-names.names.ok.0 ∙ ap length c.in_ok-names.ensures;
    })
    c.in_ok-out.out.items c.put_front.new.out.items c.put_contents.new.out.items c.extend_from_slice.new.self.items c.put_zeros.new.out.items c.put_headers.new.out.items c.put_header.new.out.items
    c.in_ok-out.ensures.items c.in_ok-put_front.ensures c.in_ok-put_contents.ensures c.in_ok-extend_from_slice.ensures.items c.in_ok-put_zeros.ensures c.in_ok-put_headers.ensures
    c.in_ok-put_header.ensures
