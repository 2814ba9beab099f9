use Rattle.std.proofs.Common.{◌≡◌, length, refl, sym, ap, subst, arith}
use Rattle.std.specs.Prelude.{OnOk, IfOk, IfErr, List, ℕ}
use Rattle.cb_model.specs.declared.node.NodeName.{NodeName}
use Rattle.cb_cert.specs.declared.certificate.Certificate.{Certificate}
use Rattle.cb_cert.specs.declared.certificate.Certificate.TheVariants.{Book, Capped, Thin}
use Rattle.cb_validity.specs.Checks.{book_checks, capped_checks, thin_checks}
use Rattle.cb_validity.specs.Valid.{IsValid}
use Rattle.cb_validity.specs.Verdicts.{IsCheckable, CertificateShows, TellsWhy}
use Rattle.cb_topo.specs.Numbered.{topology_of}
use Rattle.cb_checker.specs.Known.{verdict_of}
use Rattle.cb_checker.specs.Thin.{JudgesThinOver, ShowsThinOver}
use Rattle.cb_checker.specs.Verdicts.{JudgesBookOver, ShowsBookOver, JudgesCappedOver, ShowsCappedOver}
use Rattle.cb_checker.proofs.Thinning.{valid_of, why_of}
use Rattle.cb_checker.proofs.checked.check_over.Goals as goal

pub returns-in-Book-clause-valid : goal.returns-in-Book-clause-valid
returns-in-Book-clause-valid g c =
    let n = c.args.graph.now in
    let w = c.in-Book in
    let is = c.in-Book.is in
    let book = Book w.distance w.nodes w.columns w.spans in
    let same : book ≡ c.args.certificate.now = cc in
    let names = c.requires.sides.problem_names in
    let checks = book_checks names w.nodes w.columns w.spans in
    let judged = subst (λ (ns : List NodeName). JudgesBookOver n c.args.sides.now.problems ns w.columns w.spans w.distance (verdict_of c.check_book.result)) c.as_slice.ensures
    (subst (λ (cs : List ℕ). JudgesBookOver n c.args.sides.now.problems c.as_slice.result.now cs w.spans w.distance (verdict_of c.check_book.result)) c.as_slice-in-Book.ensures c.check_book.ensures.judges)
    in
    let all = judged names c.requires.sides.problems_are c.requires.sides.problems_named in
    subst (λ (x : Certificate). OnOk c.check_book.result (IsValid (topology_of n) x)) same
    (valid_of (topology_of n) book checks (names, c.requires.sides.problems_are, refl) c.check_book.result all)

pub returns-in-Book-clause-why : goal.returns-in-Book-clause-why
returns-in-Book-clause-why g c =
    let n = c.args.graph.now in
    let w = c.in-Book in
    let is = c.in-Book.is in
    let book = Book w.distance w.nodes w.columns w.spans in
    let same : book ≡ c.args.certificate.now = cc in
    let names = c.requires.sides.problem_names in
    let checks = book_checks names w.nodes w.columns w.spans in
    let judged = subst (λ (ns : List NodeName). JudgesBookOver n c.args.sides.now.problems ns w.columns w.spans w.distance (verdict_of c.check_book.result)) c.as_slice.ensures
    (subst (λ (cs : List ℕ). JudgesBookOver n c.args.sides.now.problems c.as_slice.result.now cs w.spans w.distance (verdict_of c.check_book.result)) c.as_slice-in-Book.ensures c.check_book.ensures.judges)
    in
    let all = judged names c.requires.sides.problems_are c.requires.sides.problems_named in
    subst (λ (x : Certificate). IfErr c.check_book.result (TellsWhy (topology_of n) x)) same
    (why_of (topology_of n) book checks (names, c.requires.sides.problems_are, refl) c.check_book.result all)

pub returns-in-Thin-clause-valid : goal.returns-in-Thin-clause-valid
returns-in-Thin-clause-valid g c =
    let n = c.args.graph.now in
    let w = c.in-Thin in
    let is = c.in-Thin.is in
    let thin = Thin w.wanted w.distance w.nodes w.first w.second in
    let same : thin ≡ c.args.certificate.now = cc in
    let checks = thin_checks w.nodes w.first w.second in
    let all = subst (λ (ns : List NodeName). JudgesThinOver n ns w.first w.second w.wanted w.distance (verdict_of c.check_thin.result)) c.as_slice-in-Thin.ensures c.check_thin.ensures.judges in
    subst (λ (x : Certificate). OnOk c.check_thin.result (IsValid (topology_of n) x)) same
    (valid_of (topology_of n) thin checks refl c.check_thin.result all)

pub returns-in-Thin-clause-why : goal.returns-in-Thin-clause-why
returns-in-Thin-clause-why g c =
    let n = c.args.graph.now in
    let w = c.in-Thin in
    let is = c.in-Thin.is in
    let thin = Thin w.wanted w.distance w.nodes w.first w.second in
    let same : thin ≡ c.args.certificate.now = cc in
    let checks = thin_checks w.nodes w.first w.second in
    let all = subst (λ (ns : List NodeName). JudgesThinOver n ns w.first w.second w.wanted w.distance (verdict_of c.check_thin.result)) c.as_slice-in-Thin.ensures c.check_thin.ensures.judges in
    subst (λ (x : Certificate). IfErr c.check_thin.result (TellsWhy (topology_of n) x)) same
    (why_of (topology_of n) thin checks refl c.check_thin.result all)

pub returns-in-Book-clause-shows : goal.returns-in-Book-clause-shows
returns-in-Book-clause-shows g c =
    let n = c.args.graph.now in
    let w = c.in-Book in
    let is = c.in-Book.is in
    let book = Book w.distance w.nodes w.columns w.spans in
    let same : book ≡ c.args.certificate.now = cc in
    subst (λ (x : Certificate). IfOk c.check_book.result (CertificateShows (topology_of n) x)) same
    (subst (λ (ns : List NodeName). IfOk c.check_book.result (ShowsBookOver n ns w.columns w.spans w.distance)) c.as_slice.ensures
    (subst (λ (cs : List ℕ). IfOk c.check_book.result (ShowsBookOver n c.as_slice.result.now cs w.spans w.distance)) c.as_slice-in-Book.ensures c.check_book.ensures.shows))

pub returns-in-Thin-clause-shows : goal.returns-in-Thin-clause-shows
returns-in-Thin-clause-shows g c =
    let n = c.args.graph.now in
    let w = c.in-Thin in
    let is = c.in-Thin.is in
    let thin = Thin w.wanted w.distance w.nodes w.first w.second in
    let same : thin ≡ c.args.certificate.now = cc in
    subst (λ (x : Certificate). IfOk c.check_thin.result (CertificateShows (topology_of n) x)) same
    (subst (λ (ns : List NodeName). IfOk c.check_thin.result (ShowsThinOver n ns w.first w.second w.wanted w.distance)) c.as_slice-in-Thin.ensures c.check_thin.ensures.shows)

pub check_book-requires-clause-some : goal.check_book-requires-clause-some
check_book-requires-clause-some g c =
    let n = c.args.graph.now in
    let w = c.in-Book in
    let is = c.in-Book.is in
    let book = Book w.distance w.nodes w.columns w.spans in
    let same : book ≡ c.args.certificate.now = cc in
    (subst IsCheckable (sym same) c.requires.checkable).0

pub check_book-requires-clause-few : goal.check_book-requires-clause-few
check_book-requires-clause-few g c =
    let n = c.args.graph.now in
    let w = c.in-Book in
    let is = c.in-Book.is in
    let book = Book w.distance w.nodes w.columns w.spans in
    let same : book ≡ c.args.certificate.now = cc in
    let few = (subst IsCheckable (sym same) c.requires.checkable).1 in
    let a = ap length c.as_slice.ensures in
    let b = ap length c.as_slice-in-Book.ensures in
    omega arith

pub check_thin-requires-clause-few : goal.check_thin-requires-clause-few
check_thin-requires-clause-few g c =
    let n = c.args.graph.now in
    let w = c.in-Thin in
    let is = c.in-Thin.is in
    let thin = Thin w.wanted w.distance w.nodes w.first w.second in
    let same : thin ≡ c.args.certificate.now = cc in
    let few = subst IsCheckable (sym same) c.requires.checkable in
    let a = ap length c.as_slice-in-Thin.ensures in
    omega arith

pub returns-in-Capped-clause-valid : goal.returns-in-Capped-clause-valid
returns-in-Capped-clause-valid g c =
    let n = c.args.graph.now in
    let w = c.in-Capped in
    let is = c.in-Capped.is in
    let book = Capped w.cap w.nodes w.columns w.radii w.spans in
    let same : book ≡ c.args.certificate.now = cc in
    let names = c.requires.sides.problem_names in
    let checks = capped_checks names w.nodes w.columns w.spans in
    let problems = c.args.sides.now.problems in
    let result = verdict_of c.check_capped.result in
    let judged = subst (λ (ns : List NodeName). JudgesCappedOver n problems ns w.columns w.radii w.spans w.cap result) c.as_slice-in-Capped.ensures
    (subst (λ (cs : List ℕ). JudgesCappedOver n problems c.as_slice-in-Capped.result.now cs w.radii w.spans w.cap result) c.as_slice-in-Capped-2.ensures
    (subst (λ (rs : List ℕ). JudgesCappedOver n problems c.as_slice-in-Capped.result.now c.as_slice-in-Capped-2.result.now rs w.spans w.cap result) c.as_slice-in-Capped-3.ensures c.check_capped.ensures.judges))
    in
    let all = judged names c.requires.sides.problems_are c.requires.sides.problems_named in
    subst (λ (x : Certificate). OnOk c.check_capped.result (IsValid (topology_of n) x)) same
    (valid_of (topology_of n) book checks (names, c.requires.sides.problems_are, refl) c.check_capped.result all)

pub returns-in-Capped-clause-why : goal.returns-in-Capped-clause-why
returns-in-Capped-clause-why g c =
    let n = c.args.graph.now in
    let w = c.in-Capped in
    let is = c.in-Capped.is in
    let book = Capped w.cap w.nodes w.columns w.radii w.spans in
    let same : book ≡ c.args.certificate.now = cc in
    let names = c.requires.sides.problem_names in
    let checks = capped_checks names w.nodes w.columns w.spans in
    let problems = c.args.sides.now.problems in
    let result = verdict_of c.check_capped.result in
    let judged = subst (λ (ns : List NodeName). JudgesCappedOver n problems ns w.columns w.radii w.spans w.cap result) c.as_slice-in-Capped.ensures
    (subst (λ (cs : List ℕ). JudgesCappedOver n problems c.as_slice-in-Capped.result.now cs w.radii w.spans w.cap result) c.as_slice-in-Capped-2.ensures
    (subst (λ (rs : List ℕ). JudgesCappedOver n problems c.as_slice-in-Capped.result.now c.as_slice-in-Capped-2.result.now rs w.spans w.cap result) c.as_slice-in-Capped-3.ensures c.check_capped.ensures.judges))
    in
    let all = judged names c.requires.sides.problems_are c.requires.sides.problems_named in
    subst (λ (x : Certificate). IfErr c.check_capped.result (TellsWhy (topology_of n) x)) same
    (why_of (topology_of n) book checks (names, c.requires.sides.problems_are, refl) c.check_capped.result all)

pub returns-in-Capped-clause-shows : goal.returns-in-Capped-clause-shows
returns-in-Capped-clause-shows g c =
    let n = c.args.graph.now in
    let w = c.in-Capped in
    let is = c.in-Capped.is in
    let book = Capped w.cap w.nodes w.columns w.radii w.spans in
    let same : book ≡ c.args.certificate.now = cc in
    subst (λ (x : Certificate). IfOk c.check_capped.result (CertificateShows (topology_of n) x)) same
    (subst (λ (ns : List NodeName). IfOk c.check_capped.result (ShowsCappedOver n ns w.columns w.radii w.spans w.cap)) c.as_slice-in-Capped.ensures
    (subst (λ (cs : List ℕ). IfOk c.check_capped.result (ShowsCappedOver n c.as_slice-in-Capped.result.now cs w.radii w.spans w.cap)) c.as_slice-in-Capped-2.ensures
    (subst (λ (rs : List ℕ). IfOk c.check_capped.result (ShowsCappedOver n c.as_slice-in-Capped.result.now c.as_slice-in-Capped-2.result.now rs w.spans w.cap)) c.as_slice-in-Capped-3.ensures c.check_capped.ensures.shows)))

pub check_capped-requires-clause-few : goal.check_capped-requires-clause-few
check_capped-requires-clause-few g c =
    let n = c.args.graph.now in
    let w = c.in-Capped in
    let is = c.in-Capped.is in
    let book = Capped w.cap w.nodes w.columns w.radii w.spans in
    let same : book ≡ c.args.certificate.now = cc in
    let few = (subst IsCheckable (sym same) c.requires.checkable).2 in
    let a = ap length c.as_slice-in-Capped.ensures in
    let b = ap length c.as_slice-in-Capped-2.ensures in
    omega arith

pub check_capped-requires-clause-radii : goal.check_capped-requires-clause-radii
check_capped-requires-clause-radii g c =
    let w = c.in-Capped in
    let is = c.in-Capped.is in
    let book = Capped w.cap w.nodes w.columns w.radii w.spans in
    let same : book ≡ c.args.certificate.now = cc in
    let few = (subst IsCheckable (sym same) c.requires.checkable).1 in
    let a = ap length c.as_slice-in-Capped-3.ensures in
    omega arith
