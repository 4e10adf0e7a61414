-- What follows where a reading stands, in the words of the grammar, and that a token or a gap may be put before it.
use Rattle.std.proofs.Common.{◌≡◌, ◌∙◌, ℕ, zero, suc, Bool, true, false, List, [], ◌∷◌, ◌++◌, ◌⊎◌, inl, inr, refl, sym, ap, append_assoc}
use Rattle.text_form.specs.Bytes.{is_comment_byte, is_separator, is_name_byte, is_word_byte, is_text_byte, AreAll}
use Rattle.text_form.specs.Entries.{Value, Word, Text, Entries, NoEntries, ValueEntry, BlockEntry, Item, Single, Begin, End, items_of}
use Rattle.text_form.specs.Grammar.{Spot, spot, Stands, Gap, NoGap, Lead, Plain, Separated, EndsRun, StandsName, StandsValue, StandsBehindGap, Opens, Brace, ColonBrace, Fields, NoField, ValueField, BlockField, IsEnd}
use Rattle.text_form.specs.Machine.{Place, Start, Ended, Named, Valued, Mode, Between, InComment, InName, InWord, InQuotes}

-- fields stand here up to a spot where they are closed so
pub record FieldsUpTo (Closing : List Item → Spot → Type 0) (after : Bool) (items : List Item) (here : Spot) : Type 0 where
  pub entries : Entries
  pub last : Spot
  pub others : List Item
  pub fields : Fields after entries here last
  pub items_are : items ≡ items_of entries ++ others
  pub closing : Closing others last

-- the brace that closes a block stands here, and what follows stands behind it
pub record ClosesBlock (Behind : List Item → Spot → Type 0) (items : List Item) (last : Spot) : Type 0 where
  pub others : List Item
  pub ended : Spot
  pub items_are : items ≡ End ∷ others
  pub brace : Stands (125 ∷ []) last ended
  pub behind : Behind others ended

-- so many blocks are closed, and the text ends behind the fields of the last one
abbrev pub Closes : ℕ → List Item → Spot → Type 0
Closes zero items last = (items ≡ []) × IsEnd last.rest
Closes (suc depth) items last = ClosesBlock (λ others ended. FieldsUpTo (Closes depth) true others ended) items last

-- the rest of a text inside so many blocks
abbrev pub IsRest : ℕ → Bool → List Item → Spot → Type 0
IsRest depth after items here = FieldsUpTo (Closes depth) after items here

-- a value stands here, and then the rest
pub record ValueBefore (depth line : ℕ) (name : List ℕ) (items : List Item) (here : Spot) : Type 0 where
  pub value : Value
  pub others : List Item
  pub valued : Spot
  pub ended : Spot
  pub items_are : items ≡ Single line name value ∷ others
  pub gap : Gap here valued
  pub stands : StandsValue value valued ended
  pub rest : IsRest depth true others ended

-- the same behind the colon
pub record ColonBefore (depth line : ℕ) (name : List ℕ) (items : List Item) (here : Spot) : Type 0 where
  pub behind : Spot
  pub colon : StandsBehindGap 58 here behind
  pub value : ValueBefore depth line name items behind

-- a block is opened so, and then the rest
pub record BlockBefore (Opened : Spot → Spot → Type 0) (depth line : ℕ) (name : List ℕ) (items : List Item) (here : Spot) : Type 0 where
  pub others : List Item
  pub inside : Spot
  pub items_are : items ≡ Begin line name ∷ others
  pub opens : Opened here inside
  pub rest : IsRest (suc depth) false others inside

-- what follows a place between two tokens
abbrev pub FollowsPlace : ℕ → Place → List Item → Spot → Type 0
FollowsPlace depth Start items here = IsRest depth false items here
FollowsPlace depth Ended items here = IsRest depth true items here
FollowsPlace depth (Named line name) items here =
    ColonBefore depth line name items here ⊎ BlockBefore Opens depth line name items here
FollowsPlace depth (Valued line name) items here =
    ValueBefore depth line name items here ⊎ BlockBefore (StandsBehindGap 123) depth line name items here

-- nothing but a comment without a line feed is left
abbrev pub EndsAt : ℕ → Place → List Item → Type 0
EndsAt depth Start items = (depth ≡ 0) × (items ≡ [])
EndsAt depth Ended items = (depth ≡ 0) × (items ≡ [])
EndsAt depth place items = ⊥

-- some bytes of a token are left, and then what follows
pub record BytesLeft (kind : ℕ → Bool) (Behind : List ℕ → Spot → Type 0) (here : Spot) : Type 0 where
  pub more : List ℕ
  pub rest : List ℕ
  pub text_is : here.rest ≡ more ++ rest
  pub all : AreAll kind more
  pub behind : Behind more (spot here.line rest)

-- what follows a comment's line feed
pub record LineLeft (Behind : Spot → Type 0) (here : Spot) : Type 0 where
  pub rest : List ℕ
  pub feed : here.rest ≡ 10 ∷ rest
  pub behind : Behind (spot (suc here.line) rest)

-- what follows the quotes that end a text
pub record QuotesLeft (Behind : Spot → Type 0) (here : Spot) : Type 0 where
  pub rest : List ℕ
  pub quotes : here.rest ≡ 34 ∷ rest
  pub behind : Behind (spot here.line rest)

-- a value was read, and the rest stands here
pub record ItemBefore (depth : ℕ) (item : Item) (items : List Item) (here : Spot) : Type 0 where
  pub others : List Item
  pub items_are : items ≡ item ∷ others
  pub rest : IsRest depth true others here

-- what follows where a reading stands
abbrev pub Follows : ℕ → Mode → List Item → Spot → Type 0
Follows depth (Between place) items here = FollowsPlace depth place items here
Follows depth (InComment place) items here =
    BytesLeft is_comment_byte (λ more there. LineLeft (λ behind. FollowsPlace depth place items behind) there) here
    ⊎ (AreAll is_comment_byte here.rest × EndsAt depth place items)
Follows depth (InName line name) items here =
    BytesLeft is_name_byte (λ more there. FollowsPlace depth (Named line (name ++ more)) items there) here
Follows depth (InWord line name word) items here =
    BytesLeft is_word_byte (λ more there. EndsRun is_word_byte there.rest × ItemBefore depth (Single line name (Word (word ++ more))) items there) here
Follows depth (InQuotes line name text) items here =
    BytesLeft is_text_byte (λ more there. QuotesLeft (λ behind. ItemBefore depth (Single line name (Text (text ++ more))) items behind) there) here

-- ---- a gap in front

-- whatever stands behind a gap there stands behind one here
abbrev pub Longer : Spot → Spot → Type 0
Longer near here = (there : Spot) → Gap near there → Gap here there

lead_longer : (near here : Spot) → Longer near here → (after : Bool) (there : Spot) → Lead after near there → Lead after here there
lead_longer _ here longer _ _ (Plain after near there gap) = Plain after here there (longer there gap)
lead_longer _ here longer _ _ (Separated byte near before behind there is gap stands later) =
    Separated byte here before behind there is (longer before gap) stands later

-- another lead in front of some fields
led : (old new : Bool) (near here : Spot) → ((there : Spot) → Lead old near there → Lead new here there)
    → (entries : Entries) (there : Spot) → Fields old entries near there → Fields new entries here there
led _ new _ here other _ _ (NoField old near there lead) = NoField new here there (other there lead)
led _ new _ here other _ _ (ValueField old name value others near at named behind valued ended there lead stands colon gap is later) =
    ValueField new name value others here at named behind valued ended there (other at lead) stands colon gap is later
led _ new _ here other _ _ (BlockField old name inner others near at named inside last ended there lead stands opens within close later) =
    BlockField new name inner others here at named inside last ended there (other at lead) stands opens within close later

rest_led : (depth : ℕ) (old new : Bool) (near here : Spot) → ((there : Spot) → Lead old near there → Lead new here there)
    → (items : List Item) → IsRest depth old items near → IsRest depth new items here
rest_led depth old new near here other items rest = record {
  entries = rest.entries;
  last = rest.last;
  others = rest.others;
  fields = led old new near here other rest.entries rest.last rest.fields;
  items_are = rest.items_are;
  closing = rest.closing;
}

token_longer : (near here : Spot) → Longer near here → (byte : ℕ) (there : Spot) → StandsBehindGap byte near there → StandsBehindGap byte here there
token_longer near here longer byte there token =
    record { before = token.before; gap = longer token.before token.gap; token = token.token }

opens_longer : (near here : Spot) → Longer near here → (there : Spot) → Opens near there → Opens here there
opens_longer _ here longer _ (Brace near there brace) = Brace here there (token_longer near here longer 123 there brace)
opens_longer _ here longer _ (ColonBrace near behind there colon brace) =
    ColonBrace here behind there (token_longer near here longer 58 behind colon) brace

block_longer : (Old New : Spot → Spot → Type 0) (depth line : ℕ) (name : List ℕ) (items : List Item) (near here : Spot)
    → ((there : Spot) → Old near there → New here there) → BlockBefore Old depth line name items near → BlockBefore New depth line name items here
block_longer Old New depth line name items near here other block = record {
  others = block.others;
  inside = block.inside;
  items_are = block.items_are;
  opens = other block.inside block.opens;
  rest = block.rest;
}

pub place_longer : (depth : ℕ) (place : Place) (items : List Item) (near here : Spot) → Longer near here
    → FollowsPlace depth place items near → FollowsPlace depth place items here
place_longer depth Start items near here longer rest = rest_led depth false false near here (lead_longer near here longer false) items rest
place_longer depth Ended items near here longer rest = rest_led depth true true near here (lead_longer near here longer true) items rest
place_longer depth (Named line name) items near here longer (inl value) =
    inl (record { behind = value.behind; colon = token_longer near here longer 58 value.behind value.colon; value = value.value })
place_longer depth (Named line name) items near here longer (inr block) =
    inr (block_longer Opens Opens depth line name items near here (opens_longer near here longer) block)
place_longer depth (Valued line name) items near here longer (inl value) = inl (record {
  value = value.value;
  others = value.others;
  valued = value.valued;
  ended = value.ended;
  items_are = value.items_are;
  gap = longer value.valued value.gap;
  stands = value.stands;
  rest = value.rest;
})
place_longer depth (Valued line name) items near here longer (inr block) =
    inr (block_longer (StandsBehindGap 123) (StandsBehindGap 123) depth line name items near here (token_longer near here longer 123) block)

-- ---- a separator in front

separates : (byte : ℕ) (here near : Spot) → is_separator byte ≡ true → Stands (byte ∷ []) here near
    → (after : Bool) (there : Spot) → after ≡ false → Lead after near there → Lead true here there
separates byte here _ is stands _ _ first (Plain after near there gap) = Separated byte here here near there is (NoGap here) stands gap
separates byte here _ is stands _ _ first (Separated other near before behind there also gap token later) = absurd (cc)

pub separator_before : (depth byte : ℕ) (items : List Item) (here near : Spot) → is_separator byte ≡ true → Stands (byte ∷ []) here near
    → IsRest depth false items near → IsRest depth true items here
separator_before depth byte items here near is stands rest =
    rest_led depth false true near here (λ there lead. separates byte here near is stands false there refl lead) items rest

-- ---- a field in front

no_lead : (after : Bool) (here : Spot) → Lead after here here
no_lead after here = Plain after here here (NoGap here)

pub value_before : (depth : ℕ) (after : Bool) (name : List ℕ) (items : List Item) (here named : Spot) → StandsName name here named
    → ColonBefore depth here.line name items named → IsRest depth after items here
value_before depth after name items here named stands before =
    let value = before.value in
    let rest = value.rest in
    record {
      entries = ValueEntry here.line name value.value rest.entries;
      last = rest.last;
      others = rest.others;
      fields = ValueField after name value.value rest.entries here here named before.behind value.valued value.ended rest.last
          (no_lead after here) stands before.colon value.gap value.stands rest.fields;
      items_are = value.items_are ∙ ap (λ (l : List Item). Single here.line name value.value ∷ l) rest.items_are;
      closing = rest.closing;
    }

pub block_before : (depth : ℕ) (after : Bool) (name : List ℕ) (items : List Item) (here named : Spot) → StandsName name here named
    → BlockBefore Opens depth here.line name items named → IsRest depth after items here
block_before depth after name items here named stands block =
    let inner = block.rest in
    let close = inner.closing in
    let rest = close.behind in
    record {
      entries = BlockEntry here.line name inner.entries rest.entries;
      last = rest.last;
      others = rest.others;
      fields = BlockField after name inner.entries rest.entries here here named block.inside inner.last close.ended rest.last
          (no_lead after here) stands block.opens inner.fields close.brace rest.fields;
      items_are = block.items_are ∙ ap (λ (l : List Item). Begin here.line name ∷ l)
          (inner.items_are ∙ ap (λ (l : List Item). items_of inner.entries ++ l) (close.items_are ∙ ap (λ (l : List Item). End ∷ l) rest.items_are)
          ∙ sym (append_assoc (items_of inner.entries) (End ∷ items_of rest.entries) rest.others));
      closing = rest.closing;
    }

pub field_before : (depth : ℕ) (after : Bool) (name : List ℕ) (items : List Item) (here named : Spot) → StandsName name here named
    → FollowsPlace depth (Named here.line name) items named → IsRest depth after items here
field_before depth after name items here named stands (inl value) = value_before depth after name items here named stands value
field_before depth after name items here named stands (inr block) = block_before depth after name items here named stands block

-- ---- an end in front

pub close_before : (depth : ℕ) (after : Bool) (items : List Item) (here ended : Spot) → Stands (125 ∷ []) here ended
    → IsRest depth true items ended → IsRest (suc depth) after (End ∷ items) here
close_before depth after items here ended brace rest = record {
  entries = NoEntries;
  last = here;
  others = End ∷ items;
  fields = NoField after here here (no_lead after here);
  items_are = refl;
  closing = record { others = items; ended = ended; items_are = refl; brace = brace; behind = rest };
}

pub nothing_before : (after : Bool) (here : Spot) → IsEnd here.rest → IsRest 0 after [] here
nothing_before after here ends = record {
  entries = NoEntries;
  last = here;
  others = [];
  fields = NoField after here here (no_lead after here);
  items_are = refl;
  closing = (refl, ends);
}
