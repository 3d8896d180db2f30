-- What an entry makes of the sets of an index.
use Rattle.std.proofs.Common.{Bool, true, false, ◌≡◌, ◌↔◌, ◌⊎◌, ℕ, List, [], ◌∷◌, ◌++◌, Contains, flat_map, Result, Ok, Err, IfOk, OnErr, inl, inr, refl, sym, ap, subst, ◌∙◌, arith}
use Rattle.std.proofs.lemmas.List.Elements.{Contains-append_left, Contains-append_right}
use Rattle.std.proofs.lemmas.Bool.Decides.{eqb_tells}
use Rattle.std.specs.Bool.{MatchBool}
use Rattle.duk_frame.specs.declared.code.Code.{Code}
use Rattle.duk_frame.specs.declared.code.Code.TheVariants.{Approved, NoCard, WrongPin, OverLimit, Unreadable}
use Rattle.duk_host.specs.Used.{IsOneMore, IsUsed}
use Rattle.duk_journal.specs.Entry.{MayStandUnder, reversed_by}
use Rattle.duk_journal.specs.Groups.{Entries}
use Rattle.duk_journal.specs.Standing.{HasApproved, numbers_in, payment_entry, reversed_in, reversed_numbers, used_by}
use Rattle.duk_journal.specs.declared.entry.Decided.{Decided}
use Rattle.duk_journal.specs.declared.entry.Decided.TheVariants.{Payment, Reversal}
use Rattle.duk_journal.specs.declared.entry.Entry.{Entry}
use Rattle.duk_reversal.specs.Numbers.{Reverses}
use Rattle.duk_reversal.specs.declared.state.ReversalState.{ReversalState}
use Rattle.duk_store.specs.Log.{Numbers}
use Rattle.duk_tree.specs.Path.{IsUsable}
use Rattle.duk_tree.specs.Serial.{Serial}
use Rattle.duk_journal_host.specs.Host.{HasSets, IndexOf, IsApproved}
use Rattle.duk_journal_host.specs.declared.sets.NumberSets.{NumberSets}
use Rattle.duk_journal_host.specs.inner.Index.{IsListed, IsNoted, IsOneMoreWhere, IsReversalNoted, IsWider, TakesNumbers, TakesSets, index_with}
use Rattle.duk_journal_host.specs.inner.Latest.{entry_under}
use Rattle.duk_journal_host.proofs.Members.{end_or, front_or, flat_from, flat_in, flat_more, listed_more, none_in, the_one, the_only}
use Rattle.duk_journal_host.proofs.NewNumbers.{new_more}

-- ---- sets that grow

pub wider_same : (old : Numbers) → IsWider old old
wider_same old = record { listed = λ is. is; kept = λ ksn is. is }

pub wider_then : (old mid new : Numbers) → IsWider old mid → IsWider mid new → IsWider old new
wider_then old mid new first then = record {
  listed = λ is. then.listed (first.listed is);
  kept = λ ksn is. then.kept ksn (first.kept ksn is);
}

pub wider_equal : (old new : Numbers) → new ≡ old → IsWider old new
wider_equal old new same = subst (λ new. IsWider old new) (sym same) (wider_same old)

-- one number more, perhaps
pub wider_if :
    {E : Type 0} (result : Result Bool E) (old new : Numbers) (ksn : Serial) → IsUsable ksn.counter → IfOk result (λ _. IsOneMore old ksn new)
    → IfOk result (λ fresh. MatchBool fresh (¬ IsUsed old ksn) (IsUsed old ksn)) → OnErr result (new ≡ old) → IsWider old new
wider_if (Ok fresh) old new ksn usable added found same = record {
  listed = λ is. listed_more old new ksn fresh is usable found added;
  kept = λ other is. (added other).1 (inl is);
}
wider_if (Err why) old new ksn usable added found same = wider_equal old new same

-- ---- what a number becomes

pub one_more_where : (holds : Type 0) (old new : Numbers) (ksn : Serial) → holds → IsOneMore old ksn new → IsOneMoreWhere holds old ksn new
one_more_where holds old new ksn is one_more other = (
  λ in_new. elim ((one_more other).0 in_new) [
    | inl was ↦ inl was
    | inr same ↦ inr (same, is)
  ],
  λ either. (one_more other).1 (elim either [
    | inl was ↦ inl was
    | inr own ↦ inr own.0
  ]),
)

pub none_more_where : (holds : Type 0) (old : Numbers) (ksn : Serial) → ¬ holds → IsOneMoreWhere holds old ksn old
none_more_where holds old ksn not other = (
  λ was. inl was,
  λ either. elim either [
    | inl was ↦ was
    | inr own ↦ absurd (not own.1)
  ],
)

-- the steps of a reversal together
pub reversal_noted :
    (old new : NumberSets) (others : Numbers) (number reversed : Serial) → IsOneMore old.others number others → IsOneMore old.used reversed new.used
    → IsOneMoreWhere (¬ IsUsed old.used reversed) others reversed new.others → IsOneMore old.reversed reversed new.reversed → IsReversalNoted old new number reversed
reversal_noted old new others number reversed own used other reversed_are = record {
  used = used;
  others = λ ksn. (
    λ in_new. elim ((other ksn).0 in_new) [
      | inl before ↦ inl ((own ksn).0 before)
      | inr last ↦ inr last
    ],
    λ either. (other ksn).1 (elim either [
      | inl before ↦ inl ((own ksn).1 before)
      | inr last ↦ inr last
    ]),
  );
  reversed_are = reversed_are;
}

-- ---- one entry more

-- what the things of a list have, with one more at its end
flat_push : {A B : Type 0} (f : A → List B) (things : List A) (last : A) (other : B) → Contains (flat_map f (things ++ last ∷ [])) other ↔ (Contains (flat_map f things) other ⊎ Contains (f last) other)
flat_push f things last other = (
  λ contains.
      let from = flat_from f (things ++ last ∷ []) other contains in
      elim (end_or things last from.0 from.1) [
        | inl before ↦ inl (flat_in f things from.0 other before from.2)
        | inr is ↦ inr (subst (λ thing. Contains (f thing) other) is from.2)
      ],
  λ either. elim either [
    | inl before ↦ flat_more f things (last ∷ []) other before
    | inr here ↦ flat_in f (things ++ last ∷ []) last other (Contains-append_right things (last ∷ []) last (the_one last)) here
  ],
)

same_or : (one other : Serial) → (one ≡ other) ⊎ ¬ (one ≡ other)
same_or one other = elim (eqb_tells one.iksn other.iksn) [
  | inl iksn ↦ elim (eqb_tells one.counter other.counter) [
    | inl counter ↦
        let at : ℕ → ℕ → Serial = λ iksn counter. record { iksn = iksn; counter = counter } in
        inl (ap (λ iksn. at iksn one.counter) iksn.1 ∙ ap (λ counter. at other.iksn counter) counter.1)
    | inr differ ↦ inr (λ same. differ.1 (ap (λ (ksn : Serial). ksn.counter) same))
  ]
  | inr differ ↦ inr (λ same. differ.1 (ap (λ (ksn : Serial). ksn.iksn) same))
]

-- a number is one of a list, or is not
used_or : (used : Numbers) (ksn : Serial) → IsUsed used ksn ⊎ ¬ IsUsed used ksn
used_or [] ksn = inr (none_in ksn)
used_or (first ∷ used) ksn = elim (same_or ksn first) [
  | inl same ↦ inl (0, omega arith, sym same)
  | inr differ ↦ elim (used_or used ksn) [
    | inl later ↦ inl (Contains-append_right (first ∷ []) used ksn later)
    | inr not ↦ inr (λ contains. elim (front_or first used ksn contains) [
      | inl same ↦ differ same
      | inr later ↦ not later
    ])
  ]
]

approved_or : (code : Code) → (code ≡ Approved) ⊎ ¬ (code ≡ Approved)
approved_or Approved = inl refl
approved_or NoCard = inr (λ is. absurd (cc))
approved_or WrongPin = inr (λ is. absurd (cc))
approved_or OverLimit = inr (λ is. absurd (cc))
approved_or Unreadable = inr (λ is. absurd (cc))

-- an approved payment that is kept is kept with more entries
approved_more : (entries more : Entries) (number : Serial) → HasApproved entries number → HasApproved (entries ++ more) number
approved_more entries more number has = record {
  amount = has.amount;
  mac = has.mac;
  kept = Contains-append_left entries more (payment_entry number has.amount Approved has.mac) has.kept;
}

last_approved : (entries : Entries) (number other : Serial) (amount : ℕ) (mac : List ℕ) (code : Code) → other ≡ number → code ≡ Approved → HasApproved (entries ++ payment_entry number amount code mac ∷ []) other
last_approved entries number other amount mac code same approved =
    let last = payment_entry number amount code mac in
    let own : last ≡ payment_entry other amount Approved mac = ap (λ number. payment_entry number amount code mac) (sym same) ∙ ap (λ code. payment_entry other amount code mac) approved in
    record {
      amount = amount;
      mac = mac;
      kept = subst (λ entry. Contains (entries ++ last ∷ []) entry) own (Contains-append_right entries (last ∷ []) last (the_one last));
    }

abbrev code_in : Decided → Code
code_in (Payment amount code) = code
code_in (Reversal counter state) = NoCard

abbrev is_payment : Decided → Bool
is_payment (Payment amount code) = true
is_payment (Reversal counter state) = false

-- a payment is one more entry
module _ (entries : Entries) (old new : IndexOf) (sets : HasSets entries old) (number : Serial) (amount : ℕ) (code : Code) (mac : List ℕ) (usable : IsUsable number.counter) (fresh : ¬ IsUsed old.used number)
    (listed : IsListed new.used) (used : IsOneMore old.used number new.used) (others : IsOneMoreWhere (¬ (code ≡ Approved)) old.others number new.others) (reversed : new.reversed ≡ old.reversed) where
  abbrev paid : Entry
  paid = payment_entry number amount code mac

  not_before : (ksn : Serial) → IsUsed old.used ksn → ¬ (ksn ≡ number)
  not_before ksn was same = fresh (subst (λ ksn. IsUsed old.used ksn) same was)

  paid_used : (ksn : Serial) → IsUsed new.used ksn ↔ Contains (used_by (entries ++ paid ∷ [])) ksn
  paid_used ksn = (
    λ is_used. (flat_push numbers_in entries paid ksn).1 (elim ((used ksn).0 is_used) [
      | inl was ↦ inl ((sets.used_are ksn).0 was)
      | inr same ↦ inr (subst (λ ksn. Contains (number ∷ []) ksn) (sym same) (the_one number))
    ]),
    λ contains. (used ksn).1 (elim ((flat_push numbers_in entries paid ksn).0 contains) [
      | inl before ↦ inl ((sets.used_are ksn).1 before)
      | inr own ↦ inr (the_only number ksn own)
    ]),
  )

  paid_approved : (ksn : Serial) → IsApproved new.used new.others ksn → HasApproved (entries ++ paid ∷ []) ksn
  paid_approved ksn is = elim ((used ksn).0 is.0) [
    | inl was ↦ approved_more entries (paid ∷ []) ksn ((sets.approved_are ksn).0 (was, λ other. is.1 ((others ksn).1 (inl other))))
    | inr same ↦ elim (approved_or code) [
      | inl approved ↦ last_approved entries number ksn amount mac code same approved
      | inr declined ↦ absurd (is.1 ((others ksn).1 (inr (same, declined))))
    ]
  ]

  approved_paid : (ksn : Serial) → HasApproved (entries ++ paid ∷ []) ksn → IsApproved new.used new.others ksn
  approved_paid ksn has =
      let own = payment_entry ksn has.amount Approved has.mac in
      elim (end_or entries paid own has.kept) [
        | inl before ↦
            let was = (sets.approved_are ksn).1 (record { amount = has.amount; mac = has.mac; kept = before }) in (
              (used ksn).1 (inl was.0),
              λ other. elim ((others ksn).0 other) [
                | inl earlier ↦ was.1 earlier
                | inr last ↦ not_before ksn was.0 last.0
              ],
            )
        | inr is ↦
            let same : ksn ≡ number = ap (λ (entry : Entry). entry.number) is in
            let approved : Approved ≡ code = ap (λ (entry : Entry). code_in entry.decided) is in (
              (used ksn).1 (inr same),
              λ other. elim ((others ksn).0 other) [
                | inl earlier ↦ not_before ksn (sets.others_used ksn earlier) same
                | inr last ↦ last.1 (sym approved)
              ],
            )
      ]

  paid_reversed : (ksn : Serial) → IsUsed new.reversed ksn ↔ Contains (reversed_numbers (entries ++ paid ∷ [])) ksn
  paid_reversed ksn =
      let push = flat_push (λ (entry : Entry). reversed_in entry.number entry.decided) entries paid ksn in (
        λ is. push.1 (inl ((sets.reversed_are ksn).0 (subst (λ set. IsUsed set ksn) reversed is))),
        λ contains. elim (push.0 contains) [
          | inl before ↦ subst (λ set. IsUsed set ksn) (sym reversed) ((sets.reversed_are ksn).1 before)
          | inr none ↦ absurd (none_in ksn none)
        ],
      )

  payment_taken : HasSets (entries ++ paid ∷ []) new
  payment_taken = record {
    new_numbers = new_more entries paid sets.new_numbers (record { usable = usable; stands = tt; new = λ contains. fresh ((sets.used_are number).1 contains) });
    listed = listed;
    used_are = paid_used;
    others_used = λ ksn is. (used ksn).1 (elim ((others ksn).0 is) [
      | inl earlier ↦ inl (sets.others_used ksn earlier)
      | inr last ↦ inr last.0
    ]);
    approved_are = λ ksn. (paid_approved ksn, approved_paid ksn);
    reversed_are = paid_reversed;
  }

-- a reversal is
module _ (entries : Entries) (old new : IndexOf) (mid : Numbers) (sets : HasSets entries old) (number : Serial) (counter : ℕ) (state : ReversalState) (mac : List ℕ) (usable : IsUsable number.counter)
    (stands : Reverses number (reversed_by number counter)) (fresh : ¬ IsUsed old.used number) (listed : IsListed new.used) (own_used : IsOneMore old.used number mid)
    (used : IsOneMore mid (reversed_by number counter) new.used)
    (others : (ksn : Serial) → IsUsed new.others ksn ↔ ((IsUsed old.others ksn ⊎ (ksn ≡ number)) ⊎ ((ksn ≡ reversed_by number counter) × ¬ IsUsed mid (reversed_by number counter))))
    (reversed_are : IsOneMore old.reversed (reversed_by number counter) new.reversed) where
  abbrev reversed : Serial
  reversed = reversed_by number counter

  abbrev undone : Entry
  undone = entry_under number mac (Reversal counter state)

  both_used : (ksn : Serial) → IsUsed new.used ksn ↔ (IsUsed old.used ksn ⊎ Contains (number ∷ reversed ∷ []) ksn)
  both_used ksn = (
    λ is. elim ((used ksn).0 is) [
      | inl before ↦ elim ((own_used ksn).0 before) [
        | inl was ↦ inl was
        | inr same ↦ inr (0, omega arith, sym same)
      ]
      | inr same ↦ inr (1, omega arith, sym same)
    ],
    λ either. (used ksn).1 (elim either [
      | inl was ↦ inl ((own_used ksn).1 (inl was))
      | inr own ↦ elim (front_or number (reversed ∷ []) ksn own) [
        | inl same ↦ inl ((own_used ksn).1 (inr same))
        | inr last ↦ inr (the_only reversed ksn last)
      ]
    ]),
  )

  undone_used : (ksn : Serial) → IsUsed new.used ksn ↔ Contains (used_by (entries ++ undone ∷ [])) ksn
  undone_used ksn = (
    λ is. (flat_push numbers_in entries undone ksn).1 (elim ((both_used ksn).0 is) [
      | inl was ↦ inl ((sets.used_are ksn).0 was)
      | inr own ↦ inr own
    ]),
    λ contains. (both_used ksn).1 (elim ((flat_push numbers_in entries undone ksn).0 contains) [
      | inl before ↦ inl ((sets.used_are ksn).1 before)
      | inr own ↦ inr own
    ]),
  )

  undone_approved : (ksn : Serial) → IsApproved new.used new.others ksn → HasApproved (entries ++ undone ∷ []) ksn
  undone_approved ksn is =
      let was_used : IsUsed mid ksn → HasApproved (entries ++ undone ∷ []) ksn = λ before. elim ((own_used ksn).0 before) [
        | inl was ↦ approved_more entries (undone ∷ []) ksn ((sets.approved_are ksn).0 (was, λ other. is.1 ((others ksn).1 (inl (inl other)))))
        | inr same ↦ absurd (is.1 ((others ksn).1 (inl (inr same))))
      ] in
      elim ((used ksn).0 is.0) [
        | inl before ↦ was_used before
        | inr same ↦ elim (used_or mid reversed) [
          | inl before ↦ was_used (subst (λ ksn. IsUsed mid ksn) (sym same) before)
          | inr not ↦ absurd (is.1 ((others ksn).1 (inr (same, not))))
        ]
      ]

  approved_undone : (ksn : Serial) → HasApproved (entries ++ undone ∷ []) ksn → IsApproved new.used new.others ksn
  approved_undone ksn has =
      let own = payment_entry ksn has.amount Approved has.mac in
      elim (end_or entries undone own has.kept) [
        | inl before ↦
            let was = (sets.approved_are ksn).1 (record { amount = has.amount; mac = has.mac; kept = before }) in (
              (used ksn).1 (inl ((own_used ksn).1 (inl was.0))),
              λ other. elim ((others ksn).0 other) [
                | inl earlier ↦ elim earlier [
                  | inl in_others ↦ was.1 in_others
                  | inr same ↦ fresh (subst (λ ksn. IsUsed old.used ksn) same was.0)
                ]
                | inr last ↦ last.1 ((own_used reversed).1 (inl (subst (λ ksn. IsUsed old.used ksn) last.0 was.0)))
              ],
            )
        | inr is ↦
            let no : true ≡ false = ap (λ (entry : Entry). is_payment entry.decided) is in absurd (cc)
      ]

  undone_reversed : (ksn : Serial) → IsUsed new.reversed ksn ↔ Contains (reversed_numbers (entries ++ undone ∷ [])) ksn
  undone_reversed ksn =
      let push = flat_push (λ (entry : Entry). reversed_in entry.number entry.decided) entries undone ksn in (
        λ is. push.1 (elim ((reversed_are ksn).0 is) [
          | inl was ↦ inl ((sets.reversed_are ksn).0 was)
          | inr same ↦ inr (0, omega arith, sym same)
        ]),
        λ contains. (reversed_are ksn).1 (elim (push.0 contains) [
          | inl before ↦ inl ((sets.reversed_are ksn).1 before)
          | inr own ↦ inr (the_only reversed ksn own)
        ]),
      )

  reversal_taken : HasSets (entries ++ undone ∷ []) new
  reversal_taken = record {
    new_numbers = new_more entries undone sets.new_numbers (record { usable = usable; stands = stands; new = λ contains. fresh ((sets.used_are number).1 contains) });
    listed = listed;
    used_are = undone_used;
    others_used = λ ksn is. (used ksn).1 (elim ((others ksn).0 is) [
      | inl earlier ↦ inl ((own_used ksn).1 (elim earlier [
        | inl before ↦ inl (sets.others_used ksn before)
        | inr same ↦ inr same
      ]))
      | inr last ↦ inr last.0
    ]);
    approved_are = λ ksn. (undone_approved ksn, approved_undone ksn);
    reversed_are = undone_reversed;
  }

-- what was decided under a new number is one more entry
pub numbers_taken :
    (old new : NumberSets) (mid : Numbers) (number : Serial) (mac : List ℕ) (decided : Decided) → IsUsable number.counter → MayStandUnder number decided → ¬ IsUsed old.used number → IsWider old.used new.used
    → IsOneMore old.used number mid → IsNoted (record old { used = mid }) new number decided → TakesSets old new (entry_under number mac decided)
numbers_taken old new mid number mac (Payment amount code) usable stands fresh wider one_more noted = λ latest more entries sets.
    payment_taken entries (index_with old latest) (index_with new more) sets number amount code mac usable fresh (wider.listed sets.listed)
    (subst (λ used. IsOneMore old.used number used) (sym noted.used) one_more) noted.others noted.reversed
numbers_taken old new mid number mac (Reversal counter state) usable stands fresh wider one_more noted = λ latest more entries sets.
    reversal_taken entries (index_with old latest) (index_with new more) mid sets number counter state mac usable stands fresh (wider.listed sets.listed) one_more noted.used noted.others noted.reversed_are

-- perhaps, with the entries that can be answered again left as they are
pub numbers_if :
    {E : Type 0} (result : Result Bool E) (old new : NumberSets) (latest : Entries) (entry : Entry) → IfOk result (λ fresh. fresh ≡ true → TakesSets old new entry)
    → IfOk result (λ fresh. fresh ≡ true → TakesNumbers (index_with old latest) (index_with new latest) entry)
numbers_if (Ok fresh) old new latest entry taken = λ is. taken is latest latest
numbers_if (Err why) old new latest entry taken = taken
