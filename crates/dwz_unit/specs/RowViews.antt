-- Tables and declarations by what the row of all tables says.
use Rattle.std.specs.Prelude.{List, map}
use Rattle.dwz_abbrev.specs.declared.read_decl.ReadDecl.{ReadDecl}
use Rattle.dwz_unit.specs.declared.flat_rows.Span.{Span}
use Rattle.dwz_unit.specs.declared.joined_table.TableInRow.{TableInRow}
use Rattle.dwz_unit.specs.TableViews.{TableView, table_view}

-- a table with its row
abbrev pub in_row : TableInRow → TableView
in_row t = table_view t.row.now t.read.now

-- where the names and forms of declarations are in the row
abbrev pub spans_of : List ReadDecl → List Span
spans_of decls = map (λ (d : ReadDecl). record { first = d.first; count = d.count }) decls
