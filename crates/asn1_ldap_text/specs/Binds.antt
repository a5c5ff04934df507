-- Binds (RFC 4511, 4.2).
use Rattle.std.specs.Prelude.{ℕ, List, ◌++◌, codes}
use Rattle.asn1_ldap.specs.declared.authentication_choice.AuthenticationChoice.{AuthenticationChoice}
use Rattle.asn1_ldap.specs.declared.authentication_choice.AuthenticationChoice.TheVariants.{Simple, Sasl}
use Rattle.asn1_ldap.specs.declared.bind_request.BindRequest.{BindRequest}
use Rattle.asn1_ldap.specs.declared.bind_response.BindResponse.{BindResponse}
use Rattle.asn1_ldap.specs.declared.sasl_credentials.SaslCredentials.{SaslCredentials}
use Rattle.asn1_ldap_text.specs.Lengths.{length_text, optional_length}
use Rattle.asn1_ldap_text.specs.Results.{result_text}
use Rattle.asn1_ldap_text.specs.Strings.{named}
use Rattle.asn1_values.specs.Text.{integer_text}

-- the version
abbrev pub version_text : BindRequest → List ℕ
version_text r = codes "bind request: version " ++ integer_text r.version

-- a mechanism, and the length of the credentials
abbrev pub sasl_text : SaslCredentials → List ℕ
sasl_text c = named (codes ", SASL mechanism ") c.mechanism ++ optional_length (codes ", credentials") c.credentials

-- how the client proves who it is, by the length of a password
abbrev pub authentication_text : AuthenticationChoice → List ℕ
authentication_text (Simple password) = length_text (codes ", simple password") password
authentication_text (Sasl credentials) = sasl_text credentials

-- a request to bind
abbrev pub bind_request_text : BindRequest → List ℕ
bind_request_text r = version_text r ++ (named (codes ", name ") r.name ++ authentication_text r.authentication)

-- a response to it
abbrev pub bind_response_text : BindResponse → List ℕ
bind_response_text r = codes "bind response: " ++
    (result_text r.result_code r.matched_dn r.diagnostic_message r.referral ++ optional_length (codes ", server credentials") r.server_sasl_creds)
