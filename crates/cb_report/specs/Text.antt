-- What a command prints, as bytes.
use Rattle.std.specs.Prelude.{ℕ, List, ◌++◌}
use Rattle.cb_report.specs.declared.text.Text.{Text}
use Rattle.cb_report.specs.declared.text.Text.TheVariants.{Bytes, Matrix, Explained, Rewound}

abbrev pub bytes_of_text : Text → List ℕ
bytes_of_text (Bytes bytes) = bytes.items
bytes_of_text (Matrix lines) = lines
bytes_of_text (Explained lines) = lines
bytes_of_text (Rewound reports lines) = reports.items ++ lines
