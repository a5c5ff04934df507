mod PresenceByTag
