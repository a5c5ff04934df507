-- The records that a buffer has written, from call to call.
use Rattle.std.proofs.Common.{◌≡◌, ℕ, ◌+◌, ◌≤◌, ◌<◌, ◌^◌, Bool, true, false, List, [], ◌∷◌, ◌++◌, append_assoc, append-nil, refl, sym, ap, subst, ◌∙◌, arith, length, take, length-append}
use Rattle.std.proofs.Math.Seq.{take-append_seam}
use Rattle.std.specs.Prelude.{Some, ◌&&◌, ◌||◌, not, if◌then◌else◌}
use Rattle.asn1_laws.specs.Writing.{Written, outermost, in_scope, in_group, followed_by}
use Rattle.asn1_items.specs.Buffers.{GroupIsInnermost, IsWrittenAsItems, LeadsOut, TellsOfGroup, inward, is_in_group, is_in_scope}
use Rattle.asn1_items.specs.Contents.{LooksLike}
use Rattle.asn1_items.specs.Headers.{tag_bytes}
use Rattle.asn1_items.specs.Kinds.{content_byte, item_byte, kind_of}
use Rattle.asn1_items.specs.declared.kinds.ItemKind.TheVariants as item_kind
use Rattle.asn1_items.specs.Items.{HasBytes, HaveBytes, IsItem, IsItemOf, IsLong, IsTooLong, MarkBytes, written_with}
use Rattle.asn1_items.specs.Numbers.{Appended, four_bytes}
use Rattle.asn1_items.specs.declared.group.Group.{Group}
use Rattle.asn1_model.specs.Composites.{group_records}
use Rattle.asn1_model.specs.ConstraintSets.{ConstraintSet}
use Rattle.asn1_model.specs.Records as model
use Rattle.asn1_model.specs.Records.{Name, held, holding, is_presence_mark, presence_marks_alone, scalar}
use Rattle.asn1_model.specs.RecordTables.{Row, Table}
use Rattle.asn1_model.specs.Tags.{head_tag}
use Rattle.asn1_tags.specs.declared.tags.Tag.{Tag}

alone-append : (rs ss : List model.Record) → not (presence_marks_alone (rs ++ ss)) ≡ (not (presence_marks_alone rs) || not (presence_marks_alone ss))
alone-append [] ss = refl
alone-append (r ∷ rs) ss = by (is_presence_mark r) (alone-append rs ss)
  where
    by : (b : Bool) → not (presence_marks_alone (rs ++ ss)) ≡ (not (presence_marks_alone rs) || not (presence_marks_alone ss)) → not (b && presence_marks_alone (rs ++ ss)) ≡ (not (b && presence_marks_alone rs) || not (presence_marks_alone ss))
    by true h = h
    by false h = refl

or_true : (b : Bool) → true ≡ (b || true)
or_true true = refl
or_true false = refl

or_false : (b : Bool) → b ≡ (b || false)
or_false true = refl
or_false false = refl

-- The open scopes and groups, innermost first.

inward-last : {A : Type 0} (inner xs : List A) (x : A) → inward inner (xs ++ x ∷ []) ≡ x ∷ inward inner xs
inward-last inner [] x = refl
inward-last inner (y ∷ xs) x = inward-last (y ∷ inner) xs x

pub innermost : {A : Type 0} (xs ys : List A) (x : A) → xs ≡ ys ++ x ∷ [] → inward [] xs ≡ x ∷ inward [] ys
innermost xs ys x is = ap (inward []) is ∙ inward-last [] ys x

-- the length of a scope is written before what is inside
abbrev pub PatchedAs : List ℕ → List ℕ → ℕ → ℕ → Type 0
PatchedAs old new start link =
    (before inside : List ℕ) (number : ℕ) → number < 2 ^ 32 → old ≡ before ++ (four_bytes number ++ inside) → start ≡ length before + 4 →
    (length inside < 2 ^ 32) × (new ≡ before ++ (four_bytes (length inside) ++ inside)) × (link ≡ number)

pub not_so : (b : Bool) → b ≡ false → {A : Type 0} → (A → b ≡ true) → ¬ A
not_so b f so a = let x : false ≡ true = sym f ∙ so a in cc

group_alone : (table : Table Row) (rs : List model.Record) (b : Bool) → presence_marks_alone rs ≡ b → group_records table (Some rs) ≡ (if b then model.presence_mark (model.group_absent table) ∷ [] else model.presence_mark (model.group_start table) ∷ rs ++ model.presence_mark model.group_end ∷ [])
group_alone table rs b is = ap (λ a. if a then model.presence_mark (model.group_absent table) ∷ [] else model.presence_mark (model.group_start table) ∷ rs ++ model.presence_mark model.group_end ∷ []) is

not_alone : (b : Bool) → true ≡ not b → b ≡ false
not_alone true e = cc
not_alone false e = refl

is_alone : (b : Bool) → false ≡ not b → b ≡ true
is_alone true e = refl
is_alone false e = cc

-- what the flag tells of the innermost list, if that is a group, after more records

pub tells_of_records : (w : Written) (rs : List model.Record) → not (presence_marks_alone rs) ≡ true → TellsOfGroup (followed_by w rs) true
tells_of_records (outermost before) rs firm = tt
tells_of_records (in_scope h before w) rs firm = tt
tells_of_records (in_group table before w) rs firm = or_true (not (presence_marks_alone before)) ∙ ap (λ b. not (presence_marks_alone before) || b) (sym firm) ∙ sym (alone-append before rs)

pub tells_of_record : (w : Written) (r : model.Record) → is_presence_mark r ≡ false → TellsOfGroup (followed_by w (r ∷ [])) true
tells_of_record w r unmarked = tells_of_records w (r ∷ []) (ap (λ b. not (b && true)) unmarked)

pub tells_of_mark : (w : Written) (m : model.PresenceMark) (some : Bool) → TellsOfGroup w some → TellsOfGroup (followed_by w (model.presence_mark m ∷ [])) some
tells_of_mark (outermost before) m some flag = tt
tells_of_mark (in_scope h before w) m some flag = tt
tells_of_mark (in_group table before w) m some flag = flag ∙ or_false (not (presence_marks_alone before)) ∙ sym (alone-append before (model.presence_mark m ∷ []))

module _ (marks : MarkBytes) where
  bytes-append : (rs ss : List model.Record) (a b : List ℕ) → HaveBytes (written_with marks) (held rs) a → HaveBytes (written_with marks) (held ss) b → HaveBytes (written_with marks) (held (rs ++ ss)) (a ++ b)
  bytes-append [] ss a b p q = subst (λ l. HaveBytes (written_with marks) (held ss) (l ++ b)) (sym p) q
  bytes-append (r ∷ rs) ss a b p q = record {
    first = p.first;
    others = p.others ++ b;
    is_first = p.is_first;
    are_others = bytes-append rs ss p.others b p.are_others q;
    are = ap (λ l. l ++ b) p.are ∙ append_assoc p.first p.others b;
  }

  one_record : (r : model.Record) (bytes : List ℕ) → HasBytes (written_with marks) r bytes → HaveBytes (written_with marks) (held (r ∷ [])) bytes
  one_record r bytes p = record { first = bytes; others = []; is_first = p; are_others = refl; are = sym (append-nil bytes) }

  -- more records in the innermost list
  followed : (w : Written) (start : ℕ) (far : List ℕ) (groups : List Group) (bytes more : List ℕ) (rs : List model.Record) → IsWrittenAsItems marks w start far groups bytes → HaveBytes (written_with marks) (held rs) more →
      IsWrittenAsItems marks (followed_by w rs) start far groups (bytes ++ more)
  followed (outermost before) start far [] bytes more rs p q = (p.0, bytes-append before rs bytes more p.1 q)
  followed (outermost before) start far (g ∷ groups) bytes more rs p q = absurd p
  followed (in_scope h before w) start far groups bytes more rs p q = record {
    before = p.before;
    link = p.link;
    inside = p.inside ++ more;
    outer = p.outer;
    outer_far = p.outer_far;
    outside = p.outside;
    are = ap (λ l. l ++ more) p.are ∙ append_assoc (p.before ++ item_byte (kind_of h) ∷ tag_bytes (head_tag h)) (four_bytes p.link ++ p.inside) more ∙ ap (λ l. (p.before ++ item_byte (kind_of h) ∷ tag_bytes (head_tag h)) ++ l) (append_assoc (four_bytes p.link) p.inside more);
    link_fits = p.link_fits;
    leads_out = p.leads_out;
    starts = p.starts;
    tag_fits = p.tag_fits;
    have_bytes = bytes-append before rs p.inside more p.have_bytes q;
  }
  followed (in_group table before w) start far [] bytes more rs p q = absurd p
  followed (in_group table before w) start far (g ∷ groups) bytes more rs p q =
      let s = p.1 in (
        p.0,
        record {
          before = s.before;
          inside = s.inside ++ more;
          outside = s.outside;
          are = ap (λ l. l ++ more) s.are ∙ append_assoc s.before (marks (model.group_start table) ++ s.inside) more ∙ ap (λ l. s.before ++ l) (append_assoc (marks (model.group_start table)) s.inside more);
          starts = s.starts;
          have_bytes = bytes-append before rs s.inside more s.have_bytes q;
        },
      )

  -- a record was appended
  pub appended : (w : Written) (start : ℕ) (far : List ℕ) (groups : List Group) (bytes more new : List ℕ) (r : model.Record) → HasBytes (written_with marks) r more → new ≡ bytes ++ more → IsWrittenAsItems marks w start far groups bytes →
      IsWrittenAsItems marks (followed_by w (r ∷ [])) start far groups new
  appended w start far groups bytes more new r has is wrote =
      subst (IsWrittenAsItems marks (followed_by w (r ∷ [])) start far groups) (sym is) (followed w start far groups bytes more (r ∷ []) wrote (one_record r more has))

  -- what was written is an item of the content
  pub scalar_written : (y x : model.Content) (t : Tag) (c : ConstraintSet) (n : Name) (bytes new : List ℕ) → LooksLike y x → Appended (IsItemOf t y) bytes new → (start : ℕ) (far : List ℕ) (groups : List Group) (w : Written) →
      IsWrittenAsItems marks w start far groups bytes → IsWrittenAsItems marks (followed_by w (scalar t c n x ∷ [])) start far groups new
  scalar_written y x t c n bytes new like a start far groups w wrote =
      appended w start far groups bytes a.added new (scalar t c n x) (record { inside = a.is.inside; is = like.bytes a.is.inside a.is.is; item = subst (λ k. IsItem item_kind.Content t (content_byte k ∷ []) a.is.inside a.added) like.kind a.is.item }) a.joined wrote

  pub scalar_too_long : (y x : model.Content) (t : Tag) (c : ConstraintSet) (n : Name) → LooksLike y x → IsLong y → IsTooLong (written_with marks) (scalar t c n x)
  scalar_too_long y x t c n like long = (long.0, like.bytes long.0 long.1, long.2)

  -- where the inside of an open scope begins, and how much was written before its header
  scope_within : (h : model.Head) (rs : List model.Record) (w : Written) (start : ℕ) (far : List ℕ) (groups : List Group) (bytes : List ℕ) (s : IsWrittenAsItems marks (in_scope h rs w) start far groups bytes) → (length s.before ≤ length bytes) × (start ≤ length bytes)
  scope_within h rs w start far groups bytes s =
      let header = item_byte (kind_of h) ∷ tag_bytes (head_tag h) in
      let size = ap length s.are ∙ length-append (s.before ++ header) (four_bytes s.link ++ s.inside) in
      let outside = length-append s.before header in
      (omega (arith, size, outside), omega (arith, size, outside, length-append (four_bytes s.link) s.inside, s.starts))

  -- and how much was written before an open group
  group_within : (table : Table Row) (rs : List model.Record) (w : Written) (start : ℕ) (far : List ℕ) (g : Group) (groups : List Group) (bytes : List ℕ) → IsWrittenAsItems marks (in_group table rs w) start far (g ∷ groups) bytes → g.start ≤ length bytes
  group_within table rs w start far g groups bytes wrote =
      let s = wrote.1 in
      omega (arith, s.starts, ap length s.are ∙ length-append s.before (marks (model.group_start table) ++ s.inside))

  -- the inside of the innermost scope begins in what was written
  pub start_within : (w : Written) (start : ℕ) (far : List ℕ) (groups : List Group) (bytes : List ℕ) → IsWrittenAsItems marks w start far groups bytes → start ≤ length bytes
  start_within (outermost rs) start far [] bytes wrote = omega (arith, wrote.0)
  start_within (outermost rs) start far (g ∷ groups) bytes wrote = absurd wrote
  start_within (in_scope h rs w) start far groups bytes s = (scope_within h rs w start far groups bytes s).1
  start_within (in_group table rs w) start far [] bytes wrote = absurd wrote
  start_within (in_group table rs w) start far (g ∷ groups) bytes wrote =
      let s = wrote.1 in
      omega (arith, start_within w start far groups s.before s.outside, s.starts, group_within table rs w start far g groups bytes wrote)

  -- a scope was opened
  pub scope_opened : (h : model.Head) (w : Written) (start link outer : ℕ) (far outer_far : List ℕ) (groups : List Group) (bytes new : List ℕ) → start ≡ length bytes + 10 → (head_tag h).value < 2 ^ 32 → link < 2 ^ 32 → LeadsOut link start far outer outer_far →
      new ≡ (bytes ++ item_byte (kind_of h) ∷ tag_bytes (head_tag h)) ++ four_bytes link → IsWrittenAsItems marks w outer outer_far groups bytes → IsWrittenAsItems marks (in_scope h [] w) start far groups new
  scope_opened h w start link outer far outer_far groups bytes new starts tag_fits link_fits leads is wrote = record {
    before = bytes;
    link = link;
    inside = [];
    outer = outer;
    outer_far = outer_far;
    outside = wrote;
    are = is ∙ ap (λ l. (bytes ++ item_byte (kind_of h) ∷ tag_bytes (head_tag h)) ++ l) (sym (append-nil (four_bytes link)));
    link_fits = link_fits;
    leads_out = leads;
    starts = starts;
    tag_fits = tag_fits;
    have_bytes = refl;
  }

  -- a scope was closed
  pub scope_closed : (h : model.Head) (rs : List model.Record) (w : Written) (start link : ℕ) (far : List ℕ) (groups : List Group) (bytes new : List ℕ) (start' : ℕ) (far' : List ℕ) → PatchedAs bytes new start link →
      ((outer : ℕ) (outer_far : List ℕ) → LeadsOut link start far outer outer_far → (start' ≡ outer) × (far' ≡ outer_far)) → IsWrittenAsItems marks (in_scope h rs w) start far groups bytes → IsWrittenAsItems marks (followed_by w (holding h rs ∷ [])) start' far' groups new
  scope_closed h rs w start link far groups bytes new start' far' patched back s =
      let header = item_byte (kind_of h) ∷ tag_bytes (head_tag h) in
      let p = patched (s.before ++ header) s.inside s.link s.link_fits s.are (omega (arith, s.starts, length-append s.before header)) in
      let item = header ++ (four_bytes (length s.inside) ++ s.inside) in
      let has : HasBytes (written_with marks) (holding h rs) item = record {
        inside = s.inside;
        is = s.have_bytes;
        item = record { are = refl; tag_fits = s.tag_fits; size_fits = p.0 };
      } in
      let whole : new ≡ s.before ++ item = p.1 ∙ append_assoc s.before header (four_bytes (length s.inside) ++ s.inside) in
      let out = back s.outer s.outer_far (subst (λ l. LeadsOut l start far s.outer s.outer_far) (sym p.2) s.leads_out) in
      let outside : IsWrittenAsItems marks w start' far' groups s.before = subst (λ f. IsWrittenAsItems marks w start' f groups s.before) (sym out.1) (subst (λ o. IsWrittenAsItems marks w o s.outer_far groups s.before) (sym out.0) s.outside) in
      appended w start' far' groups s.before item new (holding h rs) has whole outside

  -- where the inside of a scope begins after what was written, the list outside is no group's that is innermost
  group_is_outside : (w : Written) (start : ℕ) (far : List ℕ) (groups : List Group) (bytes : List ℕ) (inside : ℕ) → length bytes < inside → IsWrittenAsItems marks w start far groups bytes → ¬ GroupIsInnermost groups inside
  group_is_outside (outermost rs) start far [] bytes inside after wrote innermost = innermost
  group_is_outside (outermost rs) start far (g ∷ groups) bytes inside after wrote innermost = wrote
  group_is_outside (in_scope h rs w) start far groups bytes inside after s innermost =
      group_is_outside w s.outer s.outer_far groups s.before inside (omega (arith, after, (scope_within h rs w start far groups bytes s).0)) s.outside innermost
  group_is_outside (in_group table rs w) start far [] bytes inside after wrote innermost = innermost
  group_is_outside (in_group table rs w) start far (g ∷ groups) bytes inside after wrote innermost =
      omega (arith, after, innermost, group_within table rs w start far g groups bytes wrote)

  -- which list is innermost
  pub scope_is_innermost : (h : model.Head) (rs : List model.Record) (w : Written) (start : ℕ) (far : List ℕ) (groups : List Group) (bytes : List ℕ) → IsWrittenAsItems marks (in_scope h rs w) start far groups bytes → ¬ GroupIsInnermost groups start
  scope_is_innermost h rs w start far groups bytes s = group_is_outside w s.outer s.outer_far groups s.before start (omega (arith, s.starts)) s.outside

  pub group_is_innermost : (table : Table Row) (rs : List model.Record) (w : Written) (start : ℕ) (far : List ℕ) (groups : List Group) (bytes : List ℕ) → IsWrittenAsItems marks (in_group table rs w) start far groups bytes → GroupIsInnermost groups start
  group_is_innermost table rs w start far [] bytes wrote = absurd wrote
  group_is_innermost table rs w start far (g ∷ groups) bytes wrote =
      let s = wrote.1 in
      omega (arith, s.starts, start_within w start far groups s.before s.outside)

  -- so a scope is innermost only where its inside begins after a header, and no group is innermost
  pub not_in_scope : (w : Written) (start : ℕ) (far : List ℕ) (groups : List Group) (bytes : List ℕ) → IsWrittenAsItems marks w start far groups bytes → is_in_scope w ≡ false → 10 ≤ start → ¬ GroupIsInnermost groups start → ⊥
  not_in_scope (outermost rs) start far [] bytes wrote outside begins none = omega (arith, wrote.0, begins)
  not_in_scope (outermost rs) start far (g ∷ groups) bytes wrote outside begins none = wrote
  not_in_scope (in_scope h rs w) start far groups bytes wrote outside begins none = cc
  not_in_scope (in_group table rs w) start far groups bytes wrote outside begins none = none (group_is_innermost table rs w start far groups bytes wrote)

  -- and a group only where it is among the groups
  pub not_in_group : (w : Written) (start : ℕ) (far : List ℕ) (groups : List Group) (bytes : List ℕ) → IsWrittenAsItems marks w start far groups bytes → is_in_group w ≡ false → ¬ GroupIsInnermost groups start
  not_in_group (outermost rs) start far [] bytes wrote outside innermost = innermost
  not_in_group (outermost rs) start far (g ∷ groups) bytes wrote outside innermost = wrote
  not_in_group (in_scope h rs w) start far groups bytes wrote outside innermost = scope_is_innermost h rs w start far groups bytes wrote innermost
  not_in_group (in_group table rs w) start far groups bytes wrote outside innermost = cc

  -- a group was opened
  pub group_opened : (table : Table Row) (w : Written) (start : ℕ) (far : List ℕ) (groups : List Group) (g : Group) (bytes new : List ℕ) → g.start ≡ length bytes → TellsOfGroup w g.outer_has_records → new ≡ bytes ++ marks (model.group_start table) →
      IsWrittenAsItems marks w start far groups bytes → IsWrittenAsItems marks (in_group table [] w) start far (g ∷ groups) new
  group_opened table w start far groups g bytes new begins flag is wrote = (
    flag,
    record {
      before = bytes;
      inside = [];
      outside = wrote;
      are = is ∙ ap (λ l. bytes ++ l) (sym (append-nil (marks (model.group_start table))));
      starts = begins;
      have_bytes = refl;
    },
  )

  -- a group that is there was closed
  pub group_closed : (table : Table Row) (rs : List model.Record) (w : Written) (outer : ℕ) (far : List ℕ) (groups : List Group) (g : Group) (bytes new end : List ℕ) (some : Bool) → some ≡ true → new ≡ bytes ++ end → marks model.group_end ≡ end →
      IsWrittenAsItems marks (in_group table rs w) outer far (g ∷ groups) bytes → some ≡ not (presence_marks_alone rs) →
      IsWrittenAsItems marks (followed_by w (group_records table (Some rs))) outer far groups new × TellsOfGroup (followed_by w (group_records table (Some rs))) some
  group_closed table rs w outer far groups g bytes new end some there is ends wrote flag =
      let s = wrote.1 in
      let firm : presence_marks_alone rs ≡ false = not_alone (presence_marks_alone rs) (sym there ∙ flag) in
      let start = marks (model.group_start table) in
      let group = model.presence_mark (model.group_start table) ∷ (rs ++ model.presence_mark model.group_end ∷ []) in
      let have : HaveBytes (written_with marks) (held group) (start ++ (s.inside ++ end)) = bytes-append (model.presence_mark (model.group_start table) ∷ []) (rs ++ model.presence_mark model.group_end ∷ []) start (s.inside ++ end) (one_record (model.presence_mark (model.group_start table)) start refl)
      (bytes-append rs (model.presence_mark model.group_end ∷ []) s.inside end s.have_bytes (one_record (model.presence_mark model.group_end) end (sym ends))) in
      let whole : new ≡ s.before ++ (start ++ (s.inside ++ end)) = is ∙ ap (λ l. l ++ end) s.are ∙ append_assoc s.before (start ++ s.inside) end ∙ ap (λ l. s.before ++ l) (append_assoc start s.inside end) in
      let firm_group : not (presence_marks_alone group) ≡ true = alone-append rs (model.presence_mark model.group_end ∷ []) ∙ ap (λ b. not b || false) firm in
      subst (λ rest. IsWrittenAsItems marks (followed_by w rest) outer far groups new × TellsOfGroup (followed_by w rest) some) (sym (group_alone table rs false firm)) (
        subst (IsWrittenAsItems marks (followed_by w group) outer far groups) (sym whole) (followed w outer far groups s.before (start ++ (s.inside ++ end)) group s.outside have),
        subst (TellsOfGroup (followed_by w group)) (sym there) (tells_of_records w group firm_group),
      )

  -- a group that is absent was closed
  pub absent_group_closed : (table : Table Row) (rs : List model.Record) (w : Written) (outer : ℕ) (far : List ℕ) (groups : List Group) (g : Group) (bytes cut new away : List ℕ) (some : Bool) → some ≡ false → cut ≡ take g.start bytes → new ≡ cut ++ away → marks (model.group_absent table) ≡ away →
      IsWrittenAsItems marks (in_group table rs w) outer far (g ∷ groups) bytes → some ≡ not (presence_marks_alone rs) →
      IsWrittenAsItems marks (followed_by w (group_records table (Some rs))) outer far groups new × TellsOfGroup (followed_by w (group_records table (Some rs))) g.outer_has_records
  absent_group_closed table rs w outer far groups g bytes cut new away some none cut_is is absent wrote flag =
      let s = wrote.1 in
      let alone : presence_marks_alone rs ≡ true = is_alone (presence_marks_alone rs) (sym none ∙ flag) in
      let kept : take g.start bytes ≡ s.before = ap (λ n. take n bytes) s.starts ∙ ap (take (length s.before)) s.are ∙ take-append_seam s.before (marks (model.group_start table) ++ s.inside) in
      let whole : new ≡ s.before ++ away = is ∙ ap (λ l. l ++ away) (cut_is ∙ kept) in
      subst (λ rest. IsWrittenAsItems marks (followed_by w rest) outer far groups new × TellsOfGroup (followed_by w rest) g.outer_has_records) (sym (group_alone table rs true alone)) (
        appended w outer far groups s.before away new (model.presence_mark (model.group_absent table)) (sym absent) whole s.outside,
        tells_of_mark w (model.group_absent table) g.outer_has_records wrote.0,
      )

  -- what was written at the end
  pub finished : (start : ℕ) (far : List ℕ) (groups : List Group) (bytes : List ℕ) (rs : List model.Record) → IsWrittenAsItems marks (outermost rs) start far groups bytes → HaveBytes (written_with marks) (held rs) bytes
  finished start far [] bytes rs wrote = wrote.1
  finished start far (g ∷ groups) bytes rs wrote = absurd wrote
